use Rattle.eco_world.proofs.Common.{rules, ◌<◌, ◌≡◌, ◌+◌, ◌++◌, ◌∙◌, AreDone, ap, arith, length, length-take-le, subst, take}
use Rattle.std.specs.Prelude.{◌^◌, drop}
use Rattle.std.proofs.lemmas.List.{length-drop}
use Rattle.eco_stages.specs.Recorded.{in_turn}
use Rattle.eco_world.proofs.Rewriting.{take_on}
use Rattle.eco_world.proofs.world.World.apply_in_turn.Goals as goal

pub set_some_in_turn-done-requires : goal.set_some_in_turn-done-requires
set_some_in_turn-done-requires g c =
    let k = c.loop-done.done in
    let sets = c.args.sets.now in
    let cs = in_turn c.args.ids.now 0 (take k sets) in
    let was = c.loop-done.invariant in
    let more = c.commands_are_done_in_turn.ensures.counted c.args.self.now c.loop-done.self cs c.args.outcomes.now c.loop-done.outcomes was.are_done in
    let small : length sets < 2 ^ 64 = search rules in
    let left = ap length c.sets_from-rest.ensures ∙ length-drop k sets in (
      omega (arith, c.requires.few),
      (
        c.requires.few,
        (
          c.requires.ids,
          (
            omega (arith, c.loop-done-test.true, left),
            (
              omega (arith, was.within, left, small),
              omega (
                arith,
                more,
                was.are_done.room,
                was.within,
                c.sets_come_in_turn.ensures.counted c.args.ids.now 0 (take k sets),
                length-take-le k sets was.within,
                left,
                c.requires.room,
              ),
            ),
          ),
        ),
      ),
    )

pub loop-done-preserved : goal.loop-done-preserved
loop-done-preserved g c =
    let laws = c.commands_are_done_in_turn.ensures in
    let k = c.loop-done.done in
    let n = c.set_some_in_turn-done.result in
    let sets = c.args.sets.now in
    let ids = c.args.ids.now in
    let was = c.loop-done.invariant in
    let before = c.loop-done.outcomes in
    let after = c.set_some_in_turn-done.new.outcomes in
    let new = c.set_some_in_turn-done.new.self in
    let done = subst (λ xs. AreDone c.loop-done.self (in_turn ids k (take n xs)) before after new) c.sets_from-rest.ensures
    c.set_some_in_turn-done.ensures.done in
    let at : 0 + length (take k sets) ≡ k = omega (arith, length-take-le k sets was.within) in
    let split =
    ap (in_turn ids 0) (take_on k n sets was.within) ∙ c.sets_come_in_turn.ensures.on ids 0 (take k sets) (take n (drop k sets))
    ∙ ap (λ m. in_turn ids 0 (take k sets) ++ in_turn ids m (take n (drop k sets))) at in
    record {
      within = omega (arith, was.within, c.set_some_in_turn-done.ensures.within, ap length c.sets_from-rest.ensures, length-drop k sets);
      are_done =
          rw split
          (laws.both c.args.self.now c.loop-done.self new (in_turn ids 0 (take k sets)) (in_turn ids k (take n (drop k sets))) c.args.outcomes.now
          before after was.are_done done);
    }
