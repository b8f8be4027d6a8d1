use Rattle.eco_query.proofs.Common.{◌≡◌, take, map, slot_view}
use Rattle.eco_query.proofs.query.copies.Given as goal

-- the slots so far are copied
abbrev pub invariant-loop-slot : goal.invariant-loop-slot
invariant-loop-slot l = map slot_view l.copies.items ≡ map slot_view (take l.slot-index l.slots)
