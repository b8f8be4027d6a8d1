use Rattle.eco_tables.proofs.Common.{◌≡◌, ◌≤◌, ◌<◌, ◌-◌, ℕ, length, get_or, ColumnState}
use Rattle.eco_tables.proofs.columns.find_by_halves.Given as goal

abbrev pub invariant-loop-low : goal.invariant-loop-low
invariant-loop-low l = record {
  within : l.high ≤ length l.columns;
  inside : (k : ℕ) (d : ColumnState) → k < length l.columns → (get_or l.columns k d).id ≡ l.id → (l.low ≤ k) × (k < l.high);
}

abbrev pub decreases-loop-low : goal.decreases-loop-low
decreases-loop-low l = l.high - l.low
