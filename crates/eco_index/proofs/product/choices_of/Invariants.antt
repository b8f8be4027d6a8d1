use Rattle.eco_index.proofs.EntriesCommon.{◌≡◌, ◌-◌, ◌≤◌, length, drop, choices, asks}
use Rattle.eco_index.proofs.product.choices_of.Given as goal

abbrev pub invariant-loop-left : goal.invariant-loop-left
invariant-loop-left l = record {
  within : l.left ≤ length l.slots;
  made : l.choices ≡ record { width = length l.slots - l.left; all = choices l.ids (asks (drop l.left l.slots)) };
}

abbrev pub decreases-loop-left : goal.decreases-loop-left
decreases-loop-left l = l.left
