use Rattle.eco_frame.proofs.Common.{◌≡◌, ◌≤◌, ◌++◌, ℕ, drop, length, map, vec_capacity, vec_len, entry_values}
use Rattle.eco_query.specs.Queries.{slot_view}
use Rattle.eco_frame.specs.Rows.{lent_in, shown_in}
use Rattle.eco_frame.proofs.row_columns.push_columns.Given as goal

-- what the slots so far show, and what those that are left do
abbrev pub invariant-loop-k : goal.invariant-loop-k
invariant-loop-k l = record {
  made : (row : ℕ) → map (shown_in row) l.columns.items
      ++ entry_values (lent_in l.found row) (map slot_view (drop l.k l.slots)) (drop l.k l.entries)
      ≡ entry_values (lent_in l.found row) (map slot_view l.slots) l.entries;
  count : vec_len l.columns ≡ l.k;
  room : length l.entries ≤ vec_capacity l.columns;
}
