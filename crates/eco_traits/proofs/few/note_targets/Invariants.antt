use Rattle.eco_traits.proofs.Common.{◌≡◌, take}
use Rattle.eco_traits.proofs.few.note_targets.Given as goal
use Rattle.eco_traits.specs.Walk.{targets_of, with_others}

abbrev pub invariant-loop-id : goal.invariant-loop-id
invariant-loop-id l = l.few ≡ with_others l.initial.few (targets_of l.relationship (take l.id-index l.ids))
