use Rattle.eco_frame.proofs.BatchesCommon.{subst, sym, ◌∙◌, AllZip, IsOutline, cut_of}
use Rattle.eco_frame.specs.Plans.{batches_in}
use Rattle.eco_frame.proofs.Clashes.{cuts_are_placed}
use Rattle.eco_frame.proofs.plan.Plan.renew.Goals as goal

pub returns-then-are_known-clause-placed : goal.returns-then-are_known-clause-placed
returns-then-are_known-clause-placed g c =
    let w = g.H.Holdings.world c.args.holdings.now in
    let plan = c.args.self.now in
    cuts_are_placed c.systems_are_ordered.ensures.order c.batches_are_unique.ensures.joining w plan.systems.items plan.outlines plan.order.items
    c.requires.order (subst (λ ds. AllZip (IsOutline w) ds plan.outlines) c.deref.ensures.value (c.are_known.ensures.outlines c.if-are_known.true))
    (batches_in plan) c.requires.cut

pub returns-then-is-clause-placed : goal.returns-then-is-clause-placed
returns-then-is-clause-placed g c =
    let w = g.H.Holdings.world c.args.holdings.now in
    let plan = c.args.self.now in
    let all = subst (λ ds. AllZip (IsOutline w) ds c.in_ok-outlines.outlines) c.deref-2.ensures.value c.in_ok-outlines.ensures in
    cuts_are_placed c.systems_are_ordered.ensures.order c.batches_are_unique.ensures.joining w plan.systems.items plan.outlines plan.order.items
    c.requires.order (subst (AllZip (IsOutline w) plan.systems.items) (sym (c.is.ensures.0 c.if-is.true)) all) (batches_in plan) c.requires.cut

pub returns-clause-placed : goal.returns-clause-placed
returns-clause-placed g c =
    let w = g.H.Holdings.world c.args.holdings.now in
    let plan = c.args.self.now in
    let os = c.in_ok-outlines.outlines in
    let all = subst (λ ds. AllZip (IsOutline w) ds os) c.deref-2.ensures.value c.in_ok-outlines.ensures in
    cuts_are_placed c.systems_are_ordered.ensures.order c.batches_are_unique.ensures.joining w plan.systems.items os plan.order.items
    c.requires.order all _
    (◌∙◌ {b = cut_of os c.deref-3.result.now c.deref-4.result.now} c.in_ok-batches.ensures
    (λ i. cut_of os (c.deref-3.ensures.value i) (c.deref-4.ensures.value i)))
