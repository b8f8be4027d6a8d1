use Rattle.eco_store.proofs.AnswersCommon.{◌≡◌, ◌≤◌, drop, asks, others_hold}
use Rattle.eco_store.proofs.asking.others_hold.Given as goal

abbrev pub invariant-loop-slot : goal.invariant-loop-slot
invariant-loop-slot l = record {
  left : others_hold l.ids (asks l.slots) 0 l.group ≡ others_hold l.ids (asks (drop l.slot-index l.slots)) l.before l.group;
  few : l.before ≤ l.slot-index;
}
