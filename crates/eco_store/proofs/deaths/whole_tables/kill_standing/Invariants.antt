use Rattle.eco_store.proofs.Common.{◌≡◌, ◌≤◌, drop, length, MeetsNeeds, need, with_deaths}
use Rattle.eco_store.proofs.deaths.whole_tables.kill_standing.Given as goal

abbrev pub invariant-loop-left : goal.invariant-loop-left
invariant-loop-left l = record {
  within : l.left ≤ length l.standing;
  dead : l.entities ≡ with_deaths l.initial.entities (drop l.left l.standing);
  covers : MeetsNeeds (need l.initial.entities) l.tables → MeetsNeeds (need l.entities) l.tables;
}

abbrev pub decreases-loop-left : goal.decreases-loop-left
decreases-loop-left l = l.left
