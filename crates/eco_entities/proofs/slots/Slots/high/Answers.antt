use Rattle.eco_entities.proofs.Common.{common_steps, arith}
use Rattle.eco_entities.proofs.Marks.{length_shown}
use Rattle.eco_entities.proofs.Shown.{length-states}
use Rattle.eco_entities.proofs.slots.Slots.high.Goals as goal

pub overflow_cast-result : goal.overflow_cast-result
overflow_cast-result c = grind (arith, common_steps, length-states)

pub returns-clause-known : goal.returns-clause-known
returns-clause-known c = grind (arith, common_steps, length_shown)
