use Rattle.eco_archetypes.proofs.Common.{◌≡◌, false, take, list_any, is_found_in}
use Rattle.eco_archetypes.proofs.archetypes.Archetypes.has_passing.Given as goal

abbrev pub invariant-loop-slot : goal.invariant-loop-slot
invariant-loop-slot g l = list_any (is_found_in (g.T.TypeTest.test l.test) l.fn.self) (take l.slot-index l.slots) ≡ false
