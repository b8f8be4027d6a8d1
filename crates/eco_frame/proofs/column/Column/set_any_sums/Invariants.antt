use Rattle.eco_frame.proofs.Common.{◌≡◌, ◌++◌}
use Rattle.eco_tables.specs.Values.{whole_values}
use Rattle.eco_bodies.specs.RowSums.{set_sums_from}
use Rattle.eco_bodies.proofs.RowSums.{left_from}
use Rattle.eco_frame.proofs.column.Column.set_any_sums.Given as goal

-- what is recorded so far, and what is left
abbrev pub invariant-loop-k : goal.invariant-loop-k
invariant-loop-k l =
    l.stage ++ left_from (whole_values l.self.values) (whole_values l.other.values) l.id l.first l.entities l.k
    ≡ l.fn.stage ++ set_sums_from (whole_values l.self.values) (whole_values l.other.values) l.id l.first l.entities
