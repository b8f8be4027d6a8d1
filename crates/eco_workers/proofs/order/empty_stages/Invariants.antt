use Rattle.eco_workers.proofs.Common.{◌≡◌, ◌≤◌, [], replicate}
use Rattle.eco_workers.proofs.order.empty_stages.Given as goal

abbrev pub invariant-loop : goal.invariant-loop
invariant-loop l = record {
  room : l.count ≤ l.stages.cap;
  empty : l.stages.items ≡ replicate l.counter [];
}
