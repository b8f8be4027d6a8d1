use Rattle.eco_frame.proofs.Joins.{outlined_more}
use Rattle.eco_frame.proofs.outline.work_out.Goals as goal

pub loop-system-preserved : goal.loop-system-preserved
loop-system-preserved g c =
    outlined_more (g.H.Holdings.world c.args.holdings.now) c.edition.result c.edition.ensures c.args.systems.now c.loop-system.system-index _
    c.loop-system.outlines c.push.new.self c.list_closed.new.closed.items c.deref.result.now c.loop-system-test.true c.loop-system.invariant
    c.in_ok-list_closed.ensures.closed c.in_ok-list_closed.ensures.once c.deref.ensures.value c.in_ok-push.ensures
