use Rattle.eco_tables.proofs.Common.{◌≡◌, ◌++◌, map, take, drop, pushed, value_in, held_in}
use Rattle.eco_tables.proofs.columns.push_from.Given as goal

abbrev pub invariant-loop-column : goal.invariant-loop-column
invariant-loop-column l = l.columns ≡ map (λ c. pushed c (value_in (held_in l.source l.row) c.id))
    (take l.column-index l.initial.columns) ++ drop l.column-index l.initial.columns
