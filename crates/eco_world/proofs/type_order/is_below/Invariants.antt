use Rattle.eco_world.proofs.Common.{◌≡◌, ◌≤◌, length, min, slice_cmp, Rest, id_cmp}
use Rattle.eco_world.proofs.type_order.is_below.Given as goal

abbrev pub invariant-loop-place : goal.invariant-loop-place
invariant-loop-place l = (l.place-end ≡ min (length l.ids) (length l.others)) × (l.place ≤ l.place-end) × Rest (slice_cmp id_cmp) l.ids l.others l.place
