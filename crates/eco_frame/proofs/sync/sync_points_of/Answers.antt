use Rattle.eco_frame.proofs.BatchesCommon.{map, ◌∙◌, IfOk-weaker}
use Rattle.eco_frame.proofs.Clashes.{cuts_are_placed}
use Rattle.eco_frame.proofs.sync.sync_points_of.Goals as goal

pub returns : goal.returns
returns g c =
    IfOk-weaker c.cut.result _ _
    (λ b h. cuts_are_placed c.systems_are_ordered.ensures.order c.batches_are_unique.ensures.joining (g.H.Holdings.world c.args.holdings.now)
    c.args.systems.now c.in_ok-outlines.outlines c.deref.result.now (c.deref.ensures.value ∙ c.in_ok-order.ensures) c.in_ok-outlines.ensures
    (map (λ b. b.items) b.items) h)
    c.cut.ensures
