use Rattle.eco_tables.proofs.Common.{◌≡◌, ◌-◌, length, map, take, vec_capacity, vec_len, padded}
use Rattle.eco_tables.specs.Runs.{run_values, values_with_run}
use Rattle.eco_tables.proofs.column.runs.put_all.Given as goal

-- the sets so far are written
abbrev pub invariant-loop-place : goal.invariant-loop-place
invariant-loop-place g l = record {
  values : map padded l.rows.items ≡ values_with_run (map padded l.fn.rows.items) l.first (run_values (take l.place l.sets));
  long : length l.rows.items ≡ length l.fn.rows.items;
  room : vec_capacity l.rows - vec_len l.rows ≡ vec_capacity l.fn.rows - vec_len l.fn.rows;
}
