use Rattle.eco_store.proofs.AnswersCommon.{◌<◌}
use Rattle.eco_store.proofs.standing.row_count.Given as goal

abbrev pub invariant-loop-slot : goal.invariant-loop-slot
invariant-loop-slot l = 0 < l.count → 0 < l.slot-index
