use Rattle.eco_entities.proofs.Common.{◌≡◌, ◌≤◌, length, vec_capacity}
use Rattle.eco_entities.proofs.Picked.{ArePartsTo}
use Rattle.eco_entities.proofs.table.parts.Given as goal

abbrev pub invariant-loop-place : goal.invariant-loop-place
invariant-loop-place l = record {
  count : length l.buckets.items ≡ l.place;
  room : l.count ≤ vec_capacity l.buckets;
  parts : ArePartsTo l.count l.old l.place l.buckets.items;
}
