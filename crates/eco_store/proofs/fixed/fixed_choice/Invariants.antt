use Rattle.eco_store.proofs.AnswersCommon.{take, asks, AreFixed}
use Rattle.eco_store.proofs.fixed.fixed_choice.Given as goal

abbrev pub invariant-loop-slot : goal.invariant-loop-slot
invariant-loop-slot l = AreFixed (asks (take l.slot-index l.slots)) l.choice.items
