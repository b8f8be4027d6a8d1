use Rattle.eco_index.proofs.Common.{◌-◌, ◌<◌, ◌≤◌, IfSome, IsTrue, id_cmp, length, slice_get}
use Rattle.std.specs.Ordering.{is_lt}
use Rattle.eco_index.proofs.type_names.last_below.Given as goal

abbrev pub invariant-loop-next : goal.invariant-loop-next
invariant-loop-next l = record {
  from : l.initial.place ≤ l.last;
  within : l.last < length l.ids;
  below : l.initial.place < l.last → IfSome (slice_get l.ids l.last) (λ y. IsTrue (is_lt (id_cmp y l.bound)));
}

abbrev pub decreases-loop-next : goal.decreases-loop-next
decreases-loop-next l = length l.ids - l.last
