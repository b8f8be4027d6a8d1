use Rattle.eco_archetypes.proofs.Common.{◌≡◌, ℕ, false, take, group_at, passes_with, is_found_in}
use Rattle.eco_archetypes.proofs.archetypes.Archetypes.finds.Given as goal

abbrev pub invariant-loop-place : goal.invariant-loop-place
invariant-loop-place g l =
    let ps = group_at (g.T.TypeTest.groups l.test) l.group in
    (n : ℕ) → is_found_in (passes_with (g.T.TypeTest.test l.test) (take l.place ps)) l.fn.self n ≡ false
