use Rattle.eco_traits.proofs.Common.{common_steps, arith}
use Rattle.eco_traits.proofs.Walks.{has_listed}
use Rattle.eco_traits.proofs.implied.has_with.Goals as goal

pub returns-in-Some : goal.returns-in-Some
returns-in-Some g c = grind (arith, common_steps, has_listed)
