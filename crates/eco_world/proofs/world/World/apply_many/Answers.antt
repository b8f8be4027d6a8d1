use Rattle.eco_world.proofs.Common.{◌∙◌, length, take, map, ap, subst, length-map, length-take-le, map-append, arith}
use Rattle.eco_world.proofs.Common.{AreDone, Err, IfSome, IsSettable, Ok, Result}
use Rattle.std.specs.Prelude.{drop}
use Rattle.std.specs.Result.{IfOk, result_ok}
use Rattle.std.proofs.lemmas.List.{length-drop}
use Rattle.eco_stages.specs.Recorded.{set_of_run}
use Rattle.eco_world.proofs.Rewriting.{take_on}
use Rattle.eco_world.proofs.world.World.apply_many.Goals as goal

-- what is so of an answer is so of what may be there
there : {X E : Type 0} (P : X → Type 0) (r : Result X E) → IfOk r P → IfSome (result_ok r) P
there P (Ok x) is = is
there P (Err e) is = tt

pub loop-done-init : goal.loop-done-init
loop-done-init g c = record {
  within = omega arith;
  are_done = c.commands_are_done_in_turn.ensures.none c.args.self.now c.args.outcomes.now;
  known = rw c.ok-known.ensures.value (there (IsSettable c.args.self.now c.args.id) c.settable.result c.settable.ensures.ok);
}

pub set_some-done-requires : goal.set_some-done-requires
set_some-done-requires g c =
    let laws = c.commands_are_done_in_turn.ensures in
    let k = c.loop-done.done in
    let sets = c.args.sets.now in
    let run = set_of_run c.args.id in
    let was = c.loop-done.invariant in
    let more = laws.counted c.args.self.now c.loop-done.self (map run (take k sets)) c.args.outcomes.now c.loop-done.outcomes was.are_done in (
      omega (arith, c.requires.few),
      (
        c.requires.few,
        (
          omega (arith, c.loop-done-test.true, ap length c.sets_from-rest.ensures, length-drop k sets),
          (
            was.known,
            omega (
              arith,
              more,
              was.are_done.room,
              was.within,
              length-map (take k sets) run,
              length-take-le k sets was.within,
              ap length c.sets_from-rest.ensures,
              length-drop k sets,
              c.requires.room,
            ),
          ),
        ),
      ),
    )

pub loop-done-preserved : goal.loop-done-preserved
loop-done-preserved g c =
    let k = c.loop-done.done in
    let n = c.set_some-done.result in
    let sets = c.args.sets.now in
    let run = set_of_run c.args.id in
    let was = c.loop-done.invariant in
    let before = c.loop-done.outcomes in
    let after = c.set_some-done.new.outcomes in
    let new = c.set_some-done.new.self in
    let done = subst (λ xs. AreDone c.loop-done.self (map run (take n xs)) before after new) c.sets_from-rest.ensures c.set_some-done.ensures.done in
    record {
      within = omega (arith, was.within, c.set_some-done.ensures.within, ap length c.sets_from-rest.ensures, length-drop k sets);
      are_done =
          rw (ap (map run) (take_on k n sets was.within) ∙ map-append run (take k sets) (take n (drop k sets)))
          (c.commands_are_done_in_turn.ensures.both c.args.self.now c.loop-done.self new (map run (take k sets)) (map run (take n (drop k sets)))
          c.args.outcomes.now before after was.are_done done);
      known = c.set_some-done.ensures.known;
    }
