use Rattle.eco_frame.proofs.BatchesCommon.{◌∙◌, IfOk-weaker}
use Rattle.eco_frame.proofs.Brings.{closed}
use Rattle.eco_frame.proofs.brought.closure.Goals as goal

pub returns : goal.returns
returns g c =
    IfOk-weaker c.least_set.result _ _
    (λ keys least. closed (g.H.Holdings.world c.args.holdings.now) c.args.patterns.now c.deref.result.now keys.keys
    (c.deref.ensures.value ∙ c.in_ok-written.ensures) least)
    c.least_set.ensures
