use Rattle.eco_world.proofs.Common.{◌≡◌, ◌∙◌, ◌∷◌, [], ap, arith, map, subst, sym, take_all, take_more}
use Rattle.eco_ids.specs.Outcome.{Meets}
use Rattle.eco_ids.specs.Step.{Sets, may_set}
use Rattle.eco_stages.specs.Recorded.{set_of_run}
use Rattle.eco_world.proofs.world.World.apply_run.Goals as goal

pub returns-in-len1 : goal.returns-in-len1
returns-in-len1 g c =
    let w = c.args.self.now in
    let sets = c.args.sets.now in
    let set = c.set-item.result in
    let i = c.args.id in
    let one : sets ≡ set ∷ [] =
    sym (take_all 1 sets (omega (arith, c.in-len1.len_below))) ∙ take_more sets 0 set (omega (arith, c.in-len1.len_at_least))
    ∙ ap (λ x. x ∷ []) (sym c.set-item.is) in
    let met = subst (λ v. Meets (Sets w set.0 i v) (may_set w set.0 i v) w c.set.result c.set.new.self) c.of.ensures c.set.ensures in
    rw (ap (map (set_of_run i)) one)
    (c.commands_are_done_in_turn.ensures.one w c.set.new.self (set_of_run i set) c.set.result c.args.outcomes.now c.push.new.self
    c.push.ensures.written c.push.ensures.room met)
