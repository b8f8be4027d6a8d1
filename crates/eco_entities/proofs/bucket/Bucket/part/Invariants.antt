use Rattle.eco_entities.proofs.Common.{◌≡◌, ◌≤◌, ◌++◌, drop, length, cells_for}
use Rattle.eco_entities.proofs.bucket.Bucket.part.Given as goal

-- those that were taken, and those among the rest, are all
abbrev pub invariant-loop-cell : goal.invariant-loop-cell
invariant-loop-cell l = record {
  few : length l.part.items ≤ l.cell-index;
  all : l.part.items ++ cells_for l.place l.count (drop l.cell-index l.cell-items) ≡ cells_for l.place l.count l.cell-items;
}
