use Rattle.eco_index.proofs.Common.{length, suc, ◌-◌}
use Rattle.eco_index.specs.SlotList.{KeepsPlaces}
use Rattle.eco_index.proofs.id_index.slot_list.cover.Given as goal

abbrev pub invariant-loop-places : goal.invariant-loop-places
invariant-loop-places l = KeepsPlaces l.fn.places.items l.places.items

abbrev pub decreases-loop-places : goal.decreases-loop-places
decreases-loop-places l = suc l.last - length l.places.items
