use Rattle.eco_frame.proofs.Common.{◌≡◌, ◌≤◌, ◌-◌, drop, take}
use Rattle.eco_frame.specs.Rows.{lent_rows_from}
use Rattle.eco_frame.proofs.row_columns.RowColumns.run_length.Given as goal

-- the rows so far
abbrev pub invariant-loop-count : goal.invariant-loop-count
invariant-loop-count l = record {
  few : l.count ≤ l.most;
  are :
      lent_rows_from l.self.entries.now l.self.columns.items l.self.row (take l.count (drop l.self.row l.self.entities.now))
      ≡ take l.count (drop l.place l.self.rows.now);
}

abbrev pub decreases-loop-count : goal.decreases-loop-count
decreases-loop-count l = l.most - l.count
