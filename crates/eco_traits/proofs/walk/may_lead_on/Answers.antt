use Rattle.eco_traits.proofs.Common.{sym, ap, ◌∙◌, list_any, Two, is_pair_of}
use Rattle.eco_traits.proofs.Replaced.{no_pair}
use Rattle.eco_traits.proofs.Walks.{has_listed}
use Rattle.eco_traits.proofs.walk.may_lead_on.Goals as goal

pub returns-in-Some : goal.returns-in-Some
returns-in-Some g c = λ none target.
    has_listed (g.H.Holdings.world c.args.holdings.now) c.args.from (Two c.args.relationship target) c.in-Some.ids.now c.in-Some.ensures
    ∙ no_pair c.in-Some.ids.now c.args.relationship target
    (ap (list_any (is_pair_of c.args.relationship)) (sym c.as_slice.ensures.ids) ∙ c.may_have_pair_of.ensures none)
