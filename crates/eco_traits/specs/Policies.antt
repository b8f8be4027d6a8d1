-- Policies, and the roles in which ids name an entity, as tests.
use Rattle.std.specs.Prelude.{Bool, ◌&&◌, ◌||◌, if◌then◌else◌}
use Rattle.eco_ids.specs.declared.entity.Entity.{Entity}
use Rattle.eco_ids.specs.declared.entity.TheConstants.{ON_DELETE, ON_DELETE_TARGET, REMOVE, DELETE, PANIC}
use Rattle.eco_ids.specs.declared.id.Id.{Id}
use Rattle.eco_ids.specs.declared.id.Id.TheVariants.{One, Two}
use Rattle.eco_ids.specs.Cleanup.{policy}
use Rattle.eco_ids.specs.Order.{entity_eq}
use Rattle.eco_ids.specs.World.{WorldState}

-- the action that is paired with the condition among the ids that are there, else Remove
abbrev pub chosen : (Id → Bool) → Entity → Entity
chosen there condition = if there (Two condition DELETE) then DELETE else if there (Two condition PANIC) then PANIC else REMOVE

-- the id names the member in a role whose policy is this action
abbrev pub names_on : WorldState → Entity → Entity → Id → Bool
names_on w action member (One x) = entity_eq x member && entity_eq (policy w x ON_DELETE) action
names_on w action member (Two r t) =
    (entity_eq r member && entity_eq (policy w r ON_DELETE) action) || (entity_eq t member && entity_eq (policy w r ON_DELETE_TARGET) action)

-- the id is the entity or a pair of it
abbrev pub is_head : Entity → Id → Bool
is_head e (One x) = entity_eq x e
is_head e (Two r t) = entity_eq r e
