-- The ids of a type that name an entity, place by place.
use Rattle.std.specs.Prelude.{◌≡◌, ◌<◌, ◌+◌, ◌∷◌, ℕ, List, Some, drop, filter, length, slice_get}
use Rattle.eco_ids.specs.declared.entity.Entity.{Entity}
use Rattle.eco_ids.specs.declared.id.Id.{Id}
use Rattle.eco_ids.specs.Order.{names_entity}

-- those that name the entity, from a place on
abbrev pub named_from : List Id → ℕ → Entity → List Id
named_from ids n e = filter (λ i. names_entity i e) (drop n ids)

-- the first of those stands at this place
pub record IsFirstNamed (ids : List Id) (from : ℕ) (e : Entity) (place : ℕ) : Type 0 where
  pub within : place < length ids
  pub id : Id
  pub at : slice_get ids place ≡ Some id
  pub first : named_from ids from e ≡ id ∷ named_from ids (place + 1) e
