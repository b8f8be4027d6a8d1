use Rattle.eco_tables.proofs.Common.{◌≡◌, ◌++◌, map, take, drop, zeros, pushed}
use Rattle.eco_tables.proofs.columns.push_zeros_each.Given as goal

abbrev pub invariant-loop-column : goal.invariant-loop-column
invariant-loop-column l = l.columns ≡ map (λ c. pushed c zeros) (take l.column-index l.initial.columns) ++ drop l.column-index l.initial.columns
