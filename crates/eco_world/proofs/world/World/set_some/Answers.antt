use Rattle.eco_world.proofs.Common.{◌≡◌, ◌≤◌, ◌+◌, ◌-◌, ◌++◌, ◌∙◌, ℕ, List, ap, arith, length, length-map, length-take-le, map, map-append, take}
use Rattle.std.specs.Prelude.{drop}
use Rattle.std.proofs.lemmas.List.{length-drop}
use Rattle.eco_stages.specs.Recorded.{set_of_run}
use Rattle.eco_world.proofs.Rewriting.{take_on}
use Rattle.eco_world.proofs.world.World.set_some.Goals as goal

-- so many of a list, and then those up to a place
take_up_to : {X : Type 0} (n m : ℕ) (xs : List X) → n ≤ m → m ≤ length xs → take m xs ≡ take n xs ++ take (m - n) (drop n xs)
take_up_to n m xs behind within =
    let on : m ≡ n + (m - n) = omega (arith, behind) in
    ap (λ k. take k xs) on ∙ take_on n (m - n) xs (omega (arith, behind, within))

pub set_each-requires : goal.set_each-requires
set_each-requires g c =
    let n = c.set_rows-count.result in
    let sets = c.args.sets.now in
    let run = set_of_run c.args.id in
    let rows = c.set_rows-count.ensures.done in
    let more = c.commands_are_done_in_turn.ensures.counted c.args.self.now c.set_rows-count.new.self (map run (take n sets)) c.args.outcomes.now
    c.set_rows-count.new.outcomes rows in (
      omega (arith, c.requires.few),
      (
        c.requires.few,
        (
          c.set_rows-count.ensures.known,
          omega (
            arith,
            more,
            rows.room,
            c.requires.room,
            c.min-most.ensures,
            c.if-count-gt1.false,
            c.requires.some,
            length-map (take n sets) run,
            length-take-le n sets c.set_rows-count.ensures.within,
            length-drop n sets,
            length-take-le (c.min-most.result - n) (drop n sets) (omega (arith, length-drop n sets, c.min-most.ensures)),
          ),
        ),
      ),
    )

pub returns-clause-done : goal.returns-clause-done
returns-clause-done g c =
    let n = c.set_rows-count.result in
    let m = c.min-most.result in
    let sets = c.args.sets.now in
    let run = set_of_run c.args.id in
    let behind : n ≤ m = omega (arith, c.if-count-gt1.false, c.requires.some, c.min-most.ensures) in
    let within : m ≤ length sets = omega (arith, c.min-most.ensures) in
    rw (ap (map run) (take_up_to n m sets behind within) ∙ map-append run (take n sets) (take (m - n) (drop n sets)))
    (c.commands_are_done_in_turn.ensures.both c.args.self.now c.set_rows-count.new.self c.set_each.new.self (map run (take n sets))
    (map run (take (m - n) (drop n sets))) c.args.outcomes.now c.set_rows-count.new.outcomes c.set_each.new.outcomes c.set_rows-count.ensures.done
    c.set_each.ensures.done)
