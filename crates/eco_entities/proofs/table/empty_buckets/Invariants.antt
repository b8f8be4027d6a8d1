use Rattle.eco_entities.proofs.Common.{◌≡◌, ◌≤◌, length, vec_capacity}
use Rattle.eco_entities.proofs.table.empty_buckets.Given as goal

abbrev pub invariant-loop : goal.invariant-loop
invariant-loop l = record {
  count : length l.buckets.items ≡ l.counter;
  room : 8 ≤ vec_capacity l.buckets;
}
