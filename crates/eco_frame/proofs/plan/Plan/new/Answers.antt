use Rattle.eco_frame.proofs.BatchesCommon.{ap, subst, ◌∙◌, AllZip, order_of, IsOutline, cut_of, systems_of}
use Rattle.eco_frame.proofs.Clashes.{cuts_are_placed}
use Rattle.eco_frame.proofs.plan.Plan.new.Goals as goal

pub returns-clause-placed : goal.returns-clause-placed
returns-clause-placed g c =
    let w = g.H.Holdings.world c.args.holdings.now in
    let os = c.in_ok-outlines.outlines in
    let ds = c.args.systems.items in
    let order = c.in_ok-order.order.items in
    cuts_are_placed c.systems_are_ordered.ensures.order c.batches_are_unique.ensures.joining w ds os order
    (c.in_ok-order.ensures ∙ ap (λ ds. order_of (systems_of ds)) c.deref.ensures.value)
    (subst (λ ds. AllZip (IsOutline w) ds os) c.deref-2.ensures.value c.in_ok-outlines.ensures) _
    (◌∙◌ {b = cut_of os c.deref-3.result.now c.deref-4.result.now} c.in_ok-batches.ensures
    (λ i. cut_of os (c.deref-3.ensures.value i) (c.deref-4.ensures.value i)))
