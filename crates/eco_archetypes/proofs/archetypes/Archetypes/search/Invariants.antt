use Rattle.eco_archetypes.proofs.Common.{take, group_at, passes_with, IsAllFound}
use Rattle.eco_archetypes.proofs.archetypes.Archetypes.search.Given as goal

abbrev pub invariant-loop-place : goal.invariant-loop-place
invariant-loop-place g l =
    let ps = group_at (g.T.TypeTest.groups l.test) l.group in
    IsAllFound (passes_with (g.T.TypeTest.test l.test) (take l.place ps)) l.fn.self l.found.items
