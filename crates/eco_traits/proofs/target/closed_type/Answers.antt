use Rattle.eco_traits.proofs.Common.{sym, subst, FindsType}
use Rattle.eco_traits.proofs.target.closed_type.Goals as goal

pub returns-in-One : goal.returns-in-One
returns-in-One g c =
    subst (λ i. FindsType (g.H.Holdings.world c.args.holdings.now) c.args.entity i c.single_type.result) (sym c.in-One.is) c.single_type.ensures
