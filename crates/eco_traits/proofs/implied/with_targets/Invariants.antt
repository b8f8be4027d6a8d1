use Rattle.eco_traits.proofs.Common.{take, IsTrue, id_cmp, is_ascending, HasGiven}
use Rattle.eco_traits.proofs.implied.with_targets.Given as goal

abbrev pub invariant-loop-own : goal.invariant-loop-own
invariant-loop-own l = record { members : HasGiven l.ids l.id (take l.own-index l.traits); ascending : IsTrue (is_ascending id_cmp l.ids) }
