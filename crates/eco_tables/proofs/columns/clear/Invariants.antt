use Rattle.eco_tables.proofs.Common.{◌≡◌, ◌++◌, map, take, drop, emptied}
use Rattle.eco_tables.proofs.columns.clear.Given as goal

abbrev pub invariant-loop-column : goal.invariant-loop-column
invariant-loop-column l = l.columns ≡ map emptied (take l.column-index l.initial.columns) ++ drop l.column-index l.initial.columns
