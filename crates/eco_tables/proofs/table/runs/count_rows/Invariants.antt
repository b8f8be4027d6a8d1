use Rattle.eco_tables.proofs.Common.{◌≡◌, ◌-◌, ◌≤◌, All, length, take}
use Rattle.eco_tables.specs.Runs.{IsRunOf}
use Rattle.eco_tables.proofs.table.runs.count_rows.Given as goal

-- the sets so far are of the entities of the rows
abbrev pub invariant-loop-count : goal.invariant-loop-count
invariant-loop-count g l = record {
  run : IsRunOf l.entities l.arity l.least (take l.count l.sets);
  few : l.count ≤ l.most;
  rows : l.most ≤ length l.entities;
  sets : l.most ≤ length l.sets;
  long : All (λ s. length s.1 ≡ g.row.N) (take l.count l.sets);
}

abbrev pub decreases-loop-count : goal.decreases-loop-count
decreases-loop-count g l = l.most - l.count
