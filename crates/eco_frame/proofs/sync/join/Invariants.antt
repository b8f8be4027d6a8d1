use Rattle.eco_frame.proofs.BatchesCommon.{◌≡◌, ◌++◌, [], map, slice_get, take, drop, list_any, batched, clash_at, traits_in}
use Rattle.eco_frame.specs.Open.{IsOpen}
use Rattle.eco_frame.proofs.sync.join.Given as goal

abbrev pub invariant-loop-at : goal.invariant-loop-at
invariant-loop-at l = record {
  late : l.late ≡ list_any (λ k. traits_in (slice_get l.outlines k)) (take l.at-index l.order);
  is_open : IsOpen l.outlines l.batch;
  total : map (λ b. b.items) l.done.items ++ batched (clash_at l.outlines l.systems) (take l.at-index l.order) l.batch.places.items (drop l.at-index l.order)
      ≡ batched (clash_at l.outlines l.systems) [] [] l.order;
}
