use Rattle.eco_index.proofs.Common.{take}
use Rattle.eco_index.specs.IdIndex.{SameSlotsOf}
use Rattle.eco_index.proofs.id_index.slots.set_of.Given as goal

abbrev pub invariant-loop-slot : goal.invariant-loop-slot
invariant-loop-slot l = SameSlotsOf (take l.slot-index l.slots) l.set.keys
