use Rattle.eco_traits.proofs.Verdicts.{target_any}
use Rattle.eco_traits.proofs.verdict.is_tied.Goals as goal

pub returns : goal.returns
returns g c = target_any (g.H.Holdings.world c.args.holdings.now) c.args.entity c.is_target.result c.is_target.ensures
