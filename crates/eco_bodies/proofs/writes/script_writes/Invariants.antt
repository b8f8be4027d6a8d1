use Rattle.eco_bodies.proofs.Common.{◌≡◌, take, flat_map, map, slot_view, action_writes}
use Rattle.eco_bodies.proofs.writes.script_writes.Given as goal

abbrev pub invariant-loop-action : goal.invariant-loop-action
invariant-loop-action l = l.patterns.items ≡ flat_map (action_writes (map slot_view l.slots)) (take l.action-index l.actions)
