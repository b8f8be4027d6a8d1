use Rattle.eco_store.proofs.AnswersCommon.{IsSortedWithin, entity_cmp, Standing}
use Rattle.std.specs.Ordering.{is_lt}
use Rattle.eco_store.proofs.standing.ascends.Given as goal

abbrev pub invariant-loop-place : goal.invariant-loop-place
invariant-loop-place l = IsSortedWithin (λ (s t : Standing). is_lt (entity_cmp s.entity t.entity)) l.list 0 l.place
