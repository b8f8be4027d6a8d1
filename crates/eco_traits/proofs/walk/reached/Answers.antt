use Rattle.eco_traits.proofs.Common.{sym, ◌∙◌, IfOk-weaker}
use Rattle.eco_traits.proofs.Members.{list_any-derived}
use Rattle.eco_traits.proofs.Walks.{from_one}
use Rattle.eco_traits.proofs.walk.reached.Goals as goal

pub returns : goal.returns
returns g c =
    IfOk-weaker c.least_set.result _ _
    (λ set exact b. let f = from_one (g.H.Holdings.world c.args.holdings.now) c.args.relationship c.args.from b in
    (λ h. f.0 ((exact b).0 (list_any-derived set.keys b ∙ h)), λ h. sym (list_any-derived set.keys b) ∙ (exact b).1 (f.1 h))) c.least_set.ensures
