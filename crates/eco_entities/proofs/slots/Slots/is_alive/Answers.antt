use Rattle.eco_entities.proofs.Common.{common_steps, arith}
use Rattle.eco_entities.proofs.Shown.{alive_shown}
use Rattle.eco_entities.proofs.slots.Slots.is_alive.Goals as goal

pub returns : goal.returns
returns c = grind (arith, common_steps, alive_shown)
