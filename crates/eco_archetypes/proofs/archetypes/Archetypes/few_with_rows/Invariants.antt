use Rattle.eco_archetypes.proofs.Common.{◌≡◌, filter, take, has_rows}
use Rattle.eco_archetypes.proofs.archetypes.Archetypes.few_with_rows.Given as goal

abbrev pub invariant-loop-slot : goal.invariant-loop-slot
invariant-loop-slot l = l.found.items ≡ filter (has_rows l.fn.self) (take l.slot-index l.slots)
