-- What a walk notes of those it leads to.
use Rattle.std.specs.Prelude.{◌<◌, All, List, length}
use Rattle.std.specs.List.{IsDistinct, filter_map}
use Rattle.indexmap.specs.IndexSet.{insert_all}
use Rattle.eco_ids.specs.declared.entity.Entity.{Entity}
use Rattle.eco_ids.specs.declared.id.Id.{Id}
use Rattle.eco_ids.specs.Order.{entity_eq}
use Rattle.eco_ids.specs.Traits.{Reaches}
use Rattle.eco_ids.specs.World.{WorldState}
use Rattle.eco_traits.specs.Target.{target_by_pair}

-- the targets of the pairs of r among the ids
abbrev pub targets_of : Entity → List Id → List Entity
targets_of r ids = filter_map (target_by_pair r) ids

-- the entities, and behind them those of the others that are not there yet, each once
abbrev pub with_others : List Entity → List Entity → List Entity
with_others = insert_all (λ a b. entity_eq b a)

-- walks of pairs of r lead from an entity to more than eight, itself among them: some list has so many of these, and none twice
abbrev pub LeadsFar : WorldState → Entity → Entity → Type 0
LeadsFar w r from = (met : List Entity) × All (Reaches w r from) met × IsDistinct entity_eq met × (8 < length met)
