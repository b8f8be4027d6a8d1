use Rattle.eco_store.proofs.AnswersCommon.{◌≡◌, ◌-◌, ◌≤◌, length}
use Rattle.std.specs.Prelude.{take}
use Rattle.eco_store.specs.Ranking.{AscendTo}
use Rattle.eco_store.proofs.standing.copied.Given as goal

abbrev pub invariant-loop-list : goal.invariant-loop-list
invariant-loop-list l = record {
  begun : l.list.items ≡ take (length l.list.items) l.entities;
  within : length l.list.items ≤ length l.entities;
  up : AscendTo l.entities (length l.list.items);
}

abbrev pub decreases-loop-list : goal.decreases-loop-list
decreases-loop-list l = length l.entities - length l.list.items
