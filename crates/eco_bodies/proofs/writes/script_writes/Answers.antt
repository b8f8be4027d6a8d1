use Rattle.eco_bodies.proofs.Common.{flat_map, map, ap, refl, ◌∙◌, take_all, slot_view, action_writes}
use Rattle.eco_ids.proofs.Further.{flat_map_further}
use Rattle.eco_bodies.proofs.writes.script_writes.Goals as goal

pub loop-action-preserved : goal.loop-action-preserved
loop-action-preserved c =
    flat_map_further c.args.actions.now c.loop-action.action-index _ _ (action_writes (map slot_view c.args.slots.now)) _ _ c.loop-action-test.true
    refl c.loop-action.invariant c.in_ok-add_written.ensures

pub returns : goal.returns
returns c =
    c.loop-action.invariant
    ∙ ap (flat_map (action_writes (map slot_view c.args.slots.now))) (take_all c.loop-action.action-index c.args.actions.now c.loop-action-test.false)
