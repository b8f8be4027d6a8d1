use Rattle.eco_world.proofs.Common.{refl, subst, ◌∷◌, [], AreDone, Ok}
use Rattle.eco_ids.specs.Run.{Set}
use Rattle.eco_stages.specs.Recorded.{set_of_run}
use Rattle.eco_world.proofs.world.World.set_in_run.Goals as goal

pub returns-then-rewrite-clause-done : goal.returns-then-rewrite-clause-done
returns-then-rewrite-clause-done g c =
    rw (← c.of.ensures)
    (c.commands_are_done_in_turn.ensures.one c.args.self.now c.rewrite.new.self (Set c.args.set.now.0 c.args.id c.of.result) (Ok tt)
    c.args.outcomes.now c.push.new.self c.push.ensures.written c.push.ensures.room (c.if-rewrite.ensures.met refl))

pub returns-clause-done : goal.returns-clause-done
returns-clause-done g c =
    let set = set_of_run c.args.id c.args.set.now in
    subst (λ w. AreDone w (set ∷ []) c.args.outcomes.now c.push-2.new.self c.set_apart-outcome.new.self) (c.if-rewrite.ensures.same refl)
    (c.commands_are_done_in_turn.ensures.one c.rewrite.new.self c.set_apart-outcome.new.self set c.set_apart-outcome.result
    c.args.outcomes.now c.push-2.new.self c.push-2.ensures.written c.push-2.ensures.room c.set_apart-outcome.ensures.met)
