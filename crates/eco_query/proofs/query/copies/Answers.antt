use Rattle.eco_query.proofs.Common.{map, ap, ◌∙◌, take_all, copies_further, slot_view}
use Rattle.eco_query.proofs.query.copies.Goals as goal

pub loop-slot-preserved : goal.loop-slot-preserved
loop-slot-preserved c =
    copies_further c.args.slots.now c.loop-slot.slot-index _ c.slot-item.result slot_view _ _ c.in_ok-try_copy.field-0 c.loop-slot-test.true
    c.slot-item.is c.loop-slot.invariant c.in_ok-try_copy.ensures c.in_ok-push.ensures.items

pub returns : goal.returns
returns c = c.loop-slot.invariant ∙ ap (map slot_view) (take_all c.loop-slot.slot-index c.args.slots.now c.loop-slot-test.false)
