use Rattle.eco_entities.proofs.Common.{arith, common_steps}
use Rattle.eco_entities.specs.Words.{without_bit}
use Rattle.eco_entities.proofs.level.Level.clear.Goals as goal

pub returns-clause-words : goal.returns-clause-words
unfolding without_bit
returns-clause-words c = grind (arith, common_steps)
