use Rattle.eco_tables.proofs.Common.{◌≡◌, ◌++◌, ◌-◌, ◌≤◌, length, map, take, drop, pushed, value_in, held_in, with_removed}
use Rattle.eco_tables.proofs.columns.move_alike.Given as goal

abbrev pub invariant-loop-place : goal.invariant-loop-place
invariant-loop-place l = record {
  here : l.place ≤ length l.initial.columns;
  there : l.place ≤ length l.initial.source;
  alike : take l.place (map (λ c. c.id) l.initial.columns) ≡ take l.place (map (λ c. c.id) l.initial.source);
  taken : l.columns ≡ map (λ c. pushed c (value_in (held_in l.initial.source l.row) c.id))
      (take l.place l.initial.columns) ++ drop l.place l.initial.columns;
  left : l.source ≡ map (λ c. with_removed c l.row) (take l.place l.initial.source) ++ drop l.place l.initial.source;
}

abbrev pub decreases-loop-place : goal.decreases-loop-place
decreases-loop-place l = length l.initial.columns - l.place
