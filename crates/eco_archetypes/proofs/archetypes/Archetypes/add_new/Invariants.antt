use Rattle.eco_archetypes.proofs.Common.{◌≡◌, ◌++◌, filter, take, group_at, passes_without, is_found_in}
use Rattle.eco_archetypes.proofs.archetypes.Archetypes.add_new.Given as goal

abbrev pub invariant-loop-slot : goal.invariant-loop-slot
invariant-loop-slot g l =
    let ps = group_at (g.T.TypeTest.groups l.test) l.group in
    let new = is_found_in (passes_without (g.T.TypeTest.test l.test) (take l.place ps)) l.fn.self in
    l.found.items ≡ l.initial.found.items ++ filter new (take l.slot-index l.slots)
