use Rattle.eco_tables.proofs.Common.{◌≡◌, ℕ, ◌+◌, ◌≤◌, ◌++◌, length, map, take, drop, All, contents, lengthened, rows_from}
use Rattle.eco_tables.proofs.Rows.{values_held}
use Rattle.eco_tables.proofs.columns.join_all.Given as goal

abbrev pub invariant-loop-column : goal.invariant-loop-column
invariant-loop-column l = record {
  same : map contents l.columns ≡ map contents
      (map (λ c. lengthened c (values_held (rows_from l.source 0 l.entities) c.id)) (take l.column-index l.initial.columns)
      ++ drop l.column-index l.initial.columns);
  rest : drop l.column-index l.columns ≡ drop l.column-index l.initial.columns;
  room : (b : ℕ) → All (λ c. b + length l.entities ≤ c.room) l.initial.columns → All (λ c. b ≤ c.room) (take l.column-index l.columns);
}
