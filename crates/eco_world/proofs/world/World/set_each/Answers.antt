use Rattle.eco_world.proofs.Common.{◌++◌, ◌∙◌, ◌∷◌, [], AreDone, ap, arith, sym, length-map, length-take-le, map, map_more, subst, take, take_all}
use Rattle.eco_stages.specs.Recorded.{set_of_run}
use Rattle.eco_world.proofs.world.World.set_each.Goals as goal

pub loop-set-init : goal.loop-set-init
loop-set-init g c = record {
  are_done = c.commands_are_done_in_turn.ensures.none c.args.self.now c.args.outcomes.now;
  known = c.requires.known;
}

pub set_in_run-requires : goal.set_in_run-requires
set_in_run-requires g c =
    let k = c.loop-set.set-index in
    let sets = c.args.sets.now in
    let run = set_of_run c.args.id in
    let was = c.loop-set.invariant.are_done in
    let more = c.commands_are_done_in_turn.ensures.counted c.args.self.now c.loop-set.self (map run (take k sets)) c.args.outcomes.now
    c.loop-set.outcomes was in (
      omega (arith, c.requires.few),
      (
        c.requires.few,
        (
          c.loop-set.invariant.known,
          omega (
            arith,
            more,
            was.room,
            c.loop-set-test.true,
            length-map (take k sets) run,
            length-take-le k sets c.loop-set.auto.set-index-end,
            c.requires.room,
          ),
        ),
      ),
    )

pub loop-set-preserved : goal.loop-set-preserved
loop-set-preserved g c =
    let k = c.loop-set.set-index in
    let sets = c.args.sets.now in
    let run = set_of_run c.args.id in
    let set = c.set-item.result in
    let after = c.set_in_run.new.outcomes in
    let new = c.set_in_run.new.self in
    let more = map_more run sets k set c.loop-set-test.true ∙ ap (λ x. map run (take k sets) ++ run x ∷ []) (sym c.set-item.is) in
    record {
      are_done =
          rw more
          (c.commands_are_done_in_turn.ensures.both c.args.self.now c.loop-set.self new (map run (take k sets)) (run set ∷ []) c.args.outcomes.now
          c.loop-set.outcomes after c.loop-set.invariant.are_done c.set_in_run.ensures.done);
      known = c.set_in_run.ensures.known;
    }

pub returns-clause-done : goal.returns-clause-done
returns-clause-done g c =
    subst (λ xs. AreDone c.args.self.now (map (set_of_run c.args.id) xs) c.args.outcomes.now c.loop-set.outcomes c.loop-set.self)
    (take_all c.loop-set.set-index c.args.sets.now c.loop-set-test.false) c.loop-set.invariant.are_done
