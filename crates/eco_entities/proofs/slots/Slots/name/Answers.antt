use Rattle.eco_entities.proofs.Common.{common_steps, arith}
use Rattle.eco_entities.proofs.Shown.{name_in, name_shown}
use Rattle.eco_entities.proofs.slots.Slots.name.Goals as goal

pub returns-in_err-living : goal.returns-in_err-living
returns-in_err-living c = grind (arith, common_steps, name_in, name_shown)

pub returns-then-is_named : goal.returns-then-is_named
returns-then-is_named c = grind (arith, common_steps, name_in, name_shown)

pub returns-else-is_named : goal.returns-else-is_named
returns-else-is_named c = grind (arith, common_steps, name_in, name_shown)
