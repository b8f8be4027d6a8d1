use Rattle.eco_traits.proofs.Common.{sym, ◌∙◌, true≢false}
use Rattle.eco_traits.proofs.Replaced.{leads_nowhere}
use Rattle.eco_traits.proofs.walk.may_reach.Goals as goal

pub returns-then-not-may_lead_on : goal.returns-then-not-may_lead_on
returns-then-not-may_lead_on g c = λ known.
    leads_nowhere (g.H.Holdings.world c.args.holdings.now) c.args.relationship c.args.from c.args.goal
    (λ same. true≢false (sym (c.is.ensures.exact.1 same) ∙ c.if-is.false))
    (c.may_lead_on.ensures c.if-not-may_lead_on.true)
