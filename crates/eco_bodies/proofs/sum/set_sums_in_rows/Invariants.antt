use Rattle.eco_bodies.proofs.Common.{◌≡◌, ◌++◌, map}
use Rattle.eco_ids.specs.World.{padded}
use Rattle.eco_bodies.specs.RowSums.{set_sums_from}
use Rattle.eco_bodies.proofs.RowSums.{left_from}
use Rattle.eco_bodies.proofs.sum.set_sums_in_rows.Given as goal

-- what is recorded so far, and what is left
abbrev pub invariant-loop-k : goal.invariant-loop-k
invariant-loop-k g l =
    l.stage ++ left_from (map padded l.one) (map padded l.other) l.id l.first l.entities l.k
    ≡ l.fn.stage ++ set_sums_from (map padded l.one) (map padded l.other) l.id l.first l.entities
