use Rattle.eco_archetypes.proofs.Common.{◌≡◌, false, take, group_at, has_one_of, type_at}
use Rattle.eco_archetypes.proofs.archetypes.Archetypes.is_found_before.Given as goal

abbrev pub invariant-loop-before : goal.invariant-loop-before
invariant-loop-before g l =
    let ps = group_at (g.T.TypeTest.groups l.test) l.group in
    has_one_of (take l.before ps) (type_at l.fn.self l.slot) ≡ false
