use Rattle.eco_tables.proofs.Common.{◌≡◌, ◌≤◌, map, All, contents}
use Rattle.eco_tables.proofs.columns.shrink.Given as goal

abbrev pub invariant-loop-column : goal.invariant-loop-column
invariant-loop-column l = record {
  same : map contents l.columns ≡ map contents l.initial.columns;
  room : All (λ c. l.room ≤ c.room) l.columns;
}
