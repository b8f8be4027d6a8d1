use Rattle.eco_store.proofs.AnswersCommon.{◌≡◌, ◌++◌, drop, standings}
use Rattle.eco_store.proofs.standing.gathered.Given as goal

abbrev pub invariant-loop-place : goal.invariant-loop-place
invariant-loop-place l = l.list.items ++ standings l.place l.tables (drop l.place l.slots) ≡ standings 0 l.tables l.slots
