use Rattle.eco_traits.proofs.Common.{sym, ◌∙◌}
use Rattle.eco_traits.proofs.Walks.{has_listed, has_nothing}
use Rattle.eco_traits.proofs.walk.has.Goals as goal

pub returns-in-Some : goal.returns-in-Some
returns-in-Some g c = c.has.ensures.is ∙ sym (has_listed (g.H.Holdings.world c.args.holdings.now) c.args.entity c.args.id c.in-Some.ids.now c.in-Some.ensures)

pub returns-in-None : goal.returns-in-None
returns-in-None g c = sym (has_nothing (g.H.Holdings.world c.args.holdings.now) c.args.entity c.args.id c.in-None.ensures)
