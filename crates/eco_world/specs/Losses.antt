-- What a call takes away, and from whom.
use Rattle.std.specs.Prelude.{◌≡◌, Bool, ◌&&◌, List, [], ◌∷◌, fold, Option, Some, None, if◌then◌else◌}
use Rattle.eco_ids.specs.declared.entity.Entity.{Entity}
use Rattle.eco_ids.specs.declared.id.Id.{Id}
use Rattle.eco_ids.specs.declared.id.Id.TheVariants as ids
use Rattle.eco_ids.specs.Losses.{keeping}
use Rattle.eco_ids.specs.Mirrors.{mirror_of}
use Rattle.eco_ids.specs.Order.{entity_eq, id_eq}
use Rattle.eco_ids.specs.Step.{changed}
use Rattle.eco_ids.specs.World.{WorldState, is_symmetric}
use Rattle.eco_world.specs.declared.loss.Loss.{Loss}
use Rattle.eco_world.specs.declared.loss.Loss.TheVariants.{All, Everywhere}

-- an id of one entity goes, mirrors not counted
abbrev pub takes_id : Entity → Id → Entity → Id → Bool
takes_id e i x j = entity_eq x e && id_eq j i

-- what goes by itself, mirrors not counted
abbrev pub takes : Loss → Entity → Id → Bool
takes (All e) x j = entity_eq x e
takes (Everywhere i) x j = id_eq j i

-- the entities lose what goes from each, one after another
abbrev pub one_by_one : (Entity → Id → Bool) → WorldState → List Entity → WorldState
one_by_one goes w es = fold (λ v e. changed v e (keeping (goes e))) w es

-- nobody but the entity itself would have a mirror of the id
abbrev pub IsAlone : WorldState → Entity → Id → Type 0
IsAlone w e i = (m : Entity × Id) → mirror_of w e i ≡ Some m → m.0 ≡ e

-- an entity more, if there is one
abbrev pub with_holder : Option (Entity × Id) → List Entity → List Entity
with_holder None es = es
with_holder (Some m) es = m.0 ∷ es

-- who holds the mirrors of these ids of the entity
abbrev pub mirror_holders : WorldState → Entity → List Id → List Entity
mirror_holders w e [] = []
mirror_holders w e (j ∷ js) = with_holder (mirror_of w e j) (mirror_holders w e js)

-- the target of a pair of a symmetric relationship
abbrev pub symmetric_target : WorldState → Id → Option Entity
symmetric_target w (ids.One c) = None
symmetric_target w (ids.Two r t) = if is_symmetric w r then Some t else None
