use Rattle.eco_tables.proofs.Common.{◌≡◌, map, take, without_room}
use Rattle.eco_tables.proofs.tables.copies.copy_slots.Given as goal

abbrev pub invariant-loop-slot : goal.invariant-loop-slot
invariant-loop-slot l = l.copies.items ≡ map without_room (take l.slot-index l.slots)
