use Rattle.eco_traits.proofs.Common.{sym, ◌∙◌, late_traits}
use Rattle.eco_traits.proofs.Verdicts.{none_late}
use Rattle.eco_traits.proofs.verdict.any_late.Goals as goal

pub returns-then-not-is_used : goal.returns-then-not-is_used
returns-then-not-is_used g c =
    let w = g.H.Holdings.world c.args.holdings.now in
    none_late w c.args.entity c.args.coming.now (late_traits w.edition) (sym c.is_used.ensures ∙ c.if-not-is_used.true)
