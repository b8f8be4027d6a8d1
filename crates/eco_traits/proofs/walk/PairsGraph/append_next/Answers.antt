use Rattle.eco_traits.proofs.Common.{Some, ap, ◌∙◌}
use Rattle.eco_traits.proofs.Walks.{appended}
use Rattle.eco_traits.proofs.walk.PairsGraph.append_next.Goals as goal

pub returns-in_ok-append_targets-clause-exact : goal.returns-in_ok-append_targets-clause-exact
returns-in_ok-append_targets-clause-exact g c = λ b.
    appended (g.H.Holdings.world c.args.self.now.holdings.now) c.args.entity c.args.self.now.relationship c.as_slice.result.now _ _ b
    (ap Some c.as_slice.ensures.ids ∙ c.in-Some.ensures) (c.in_ok-append_targets.ensures b)
