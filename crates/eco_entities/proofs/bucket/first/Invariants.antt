use Rattle.eco_entities.proofs.Common.{drop, IsIn}
use Rattle.eco_entities.proofs.bucket.first.Given as goal

-- the cell is still to come
abbrev pub invariant-loop-place : goal.invariant-loop-place
invariant-loop-place l = IsIn l.cell l.cells → IsIn l.cell (drop l.place l.cells)
