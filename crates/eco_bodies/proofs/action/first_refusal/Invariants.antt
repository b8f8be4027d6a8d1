use Rattle.eco_bodies.proofs.Common.{◌≡◌, map, drop, slot_view}
use Rattle.eco_bodies.specs.Actions as spec
use Rattle.eco_bodies.proofs.action.first_refusal.Given as goal

abbrev pub invariant-loop-action : goal.invariant-loop-action
invariant-loop-action l = spec.first_action_refusal (map slot_view l.slots) l.actions
    ≡ spec.first_action_refusal (map slot_view l.slots) (drop l.action-index l.actions)
