use Rattle.eco_tables.proofs.Common.{◌≡◌, ℕ, ◌≤◌, map, take, All, contents}
use Rattle.eco_tables.proofs.columns.reserve.Given as goal

abbrev pub invariant-loop-column : goal.invariant-loop-column
invariant-loop-column l = record {
  same : map contents l.columns ≡ map contents l.initial.columns;
  kept : (b : ℕ) → All (λ c. b ≤ c.room) l.initial.columns → All (λ c. b ≤ c.room) l.columns;
  room : All (λ c. l.more ≤ c.room) (take l.column-index l.columns);
}
