use Rattle.eco_entities.proofs.Common.{◌≡◌, ◌≢◌, length, IsIn, Cell}
use Rattle.eco_entities.proofs.bucket.Bucket.remove.Given as goal

abbrev pub invariant-loop-place : goal.invariant-loop-place
invariant-loop-place l = record {
  others : (other : Cell) → other ≢ l.cell → IsIn other l.fn.self.0 → IsIn other l.self-inside.cells.items;
  marks : l.self-inside.marks ≡ l.fn.self.1;
}

abbrev pub decreases-loop-place : goal.decreases-loop-place
decreases-loop-place l = length l.self-inside.cells.items
