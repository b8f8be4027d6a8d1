use Rattle.eco_entities.proofs.Common.{common_steps, arith}
use Rattle.eco_entities.proofs.Shown.{entity_shown, nobody_shown, state_shown}
use Rattle.eco_entities.proofs.slots.Slots.entity_at.Goals as goal

pub returns-in_err-slot : goal.returns-in_err-slot
returns-in_err-slot c = grind (arith, common_steps, state_shown)

pub returns-then-is_living : goal.returns-then-is_living
returns-then-is_living c = grind (arith, common_steps, entity_shown)

pub returns-else-is_living : goal.returns-else-is_living
returns-else-is_living c = grind (arith, common_steps, nobody_shown)
