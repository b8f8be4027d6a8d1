use Rattle.eco_entities.proofs.Common.{arith, common_steps}
use Rattle.eco_entities.specs.Words.{with_bit}
use Rattle.eco_entities.proofs.level.Level.set.Goals as goal

pub returns : goal.returns
unfolding with_bit
returns c = grind (arith, common_steps)
