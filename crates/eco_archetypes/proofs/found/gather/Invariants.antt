use Rattle.eco_archetypes.proofs.Common.{◌≡◌, take, standing_in}
use Rattle.eco_archetypes.proofs.found.gather.Given as goal

abbrev pub invariant-loop-slot : goal.invariant-loop-slot
invariant-loop-slot l = l.entities.items ≡ standing_in l.tables (take l.slot-index l.slots)
