use Rattle.eco_store.proofs.AnswersCommon.{sym}
use Rattle.eco_store.proofs.FixedEntries.{slot_fixed}
use Rattle.eco_store.proofs.fixed.fixed_choice.Goals as goal

pub loop-slot-preserved : goal.loop-slot-preserved
loop-slot-preserved c =
    slot_fixed c.args.slots.now c.loop-slot.slot-index c.slot-item.result c.loop-slot.choice.items c.push.new.self.items c.in-Some.entry
    c.loop-slot-test.true c.loop-slot.invariant (sym c.slot-item.is) c.in-Some.ensures c.in_ok-push.ensures.ok
