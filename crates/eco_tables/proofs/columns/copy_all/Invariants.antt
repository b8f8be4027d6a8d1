use Rattle.eco_tables.proofs.Common.{◌≡◌, map, take, contents}
use Rattle.eco_tables.proofs.columns.copy_all.Given as goal

abbrev pub invariant-loop-column : goal.invariant-loop-column
invariant-loop-column l = map contents l.copies.items ≡ map contents (take l.column-index l.columns)
