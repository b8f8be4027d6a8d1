use Rattle.eco_traits.proofs.CleanupCommon.{map, sym, ap, ◌∙◌, map_more, take_all, Falling}
use Rattle.eco_traits.proofs.deleting.falling.Goals as goal

pub loop-slot-preserved : goal.loop-slot-preserved
loop-slot-preserved c =
    (rw c.loop-slot.invariant at c.in_ok-push.ensures.items) ∙ sym (map_more Falling c.args.slots.now c.loop-slot.slot-index _ c.loop-slot-test.true)

pub returns : goal.returns
returns c =
    c.loop-slot.invariant
    ∙ ap (map Falling) (take_all c.loop-slot.slot-index c.args.slots.now c.loop-slot-test.false)
