use Rattle.eco_tables.proofs.Common.{without_room, map, ap, ◌∙◌, take_all}
use Rattle.eco_tables.proofs.Copies.{pushed_more}
use Rattle.eco_tables.proofs.tables.copies.copy_slots.Goals as goal

pub loop-slot-preserved : goal.loop-slot-preserved
loop-slot-preserved c =
    c.in_ok-push.ensures.items
    ∙ pushed_more without_room c.args.slots.now c.loop-slot.slot-index c.slot-item.result c.loop-slot.copies.items c.in_ok-copy.copy
    c.loop-slot-test.true c.loop-slot.invariant (c.in_ok-copy.ensures ∙ ap without_room c.slot-item.is)

pub returns : goal.returns
returns c = c.loop-slot.invariant ∙ ap (map without_room) (take_all c.loop-slot.slot-index c.args.slots.now c.loop-slot-test.false)
