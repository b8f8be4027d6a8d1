use Rattle.eco_store.proofs.AnswersCommon.{◌+◌, ◌-◌, ◌<◌, ◌≤◌}
use Rattle.eco_store.specs.Ranking.{AscendTo}
use Rattle.eco_store.proofs.standing.ascend_on.Given as goal

abbrev pub invariant-loop-place : goal.invariant-loop-place
invariant-loop-place l = record {
  after : 0 < l.place;
  within : l.place ≤ l.to + 1;
  up : AscendTo l.entities l.from → AscendTo l.entities l.place;
}

abbrev pub decreases-loop-place : goal.decreases-loop-place
decreases-loop-place l = l.to + 1 - l.place
