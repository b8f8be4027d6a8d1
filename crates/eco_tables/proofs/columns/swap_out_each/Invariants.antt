use Rattle.eco_tables.proofs.Common.{◌≡◌, ◌++◌, map, take, drop, with_removed}
use Rattle.eco_tables.proofs.columns.swap_out_each.Given as goal

abbrev pub invariant-loop-column : goal.invariant-loop-column
invariant-loop-column l = l.columns ≡ map (λ c. with_removed c l.row) (take l.column-index l.initial.columns) ++ drop l.column-index l.initial.columns
