use Rattle.eco_traits.proofs.Common.{refl, sym, IfOk-weaker, root}
use Rattle.eco_traits.proofs.Walks.{from_one}
use Rattle.eco_traits.proofs.walk.reaches.Goals as goal

pub returns-then-is : goal.returns-then-is
returns-then-is g c = (λ h. root (sym (c.if-is.ensures.exact.0 refl)), λ h. refl)

pub returns : goal.returns
returns g c =
    let one = from_one (g.H.Holdings.world c.args.holdings.now) c.args.relationship c.args.from c.args.goal in
    IfOk-weaker c.is_in_least_set.result _ _ (λ b is. (λ h. one.0 (is.0 h), λ h. is.1 (one.1 h))) c.is_in_least_set.ensures
