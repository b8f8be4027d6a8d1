use Rattle.eco_traits.proofs.Common.{common_steps, arith}
use Rattle.eco_traits.proofs.Verdicts.{with_held}
use Rattle.eco_traits.proofs.verdict.has_with.Goals as goal

pub returns : goal.returns
returns g c = grind (arith, common_steps, with_held)
