use Rattle.eco_entities.proofs.Common.{arith, same_Some, common_steps}
use Rattle.eco_entities.proofs.Renaming.{uncalled, rename_taken, rename_same, same_entity, other_entity}
use Rattle.eco_entities.proofs.entity_index.EntityIndex.rename.Goals as goal

pub returns-in-Some-lookup : goal.returns-in-Some-lookup
returns-in-Some-lookup c = grind (arith, common_steps, rename_same, same_entity)

pub returns-in_default-lookup : goal.returns-in_default-lookup
returns-in_default-lookup c = grind (arith, common_steps, same_Some, uncalled, other_entity, rename_taken)
