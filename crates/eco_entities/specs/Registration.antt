-- What the index keeps of a living entity, and how it makes and renames one.
use Rattle.std.specs.Prelude.{ℕ, false, List, slice_get, Option, Some, None, option_and_then, Result}
use Rattle.eco_ids.specs.declared.entity.Entity.{Entity}
use Rattle.eco_ids.specs.declared.refusal.Refusal.{Refusal}
use Rattle.eco_ids.specs.Births.{Makes, may_make}
use Rattle.eco_ids.specs.Indices.{Indexed, IndexState, Retired, Free, Living, record_of}
use Rattle.eco_ids.specs.Outcome.{Meets}
use Rattle.eco_ids.specs.Renaming.{RenamesWith, may_rename}
use Rattle.eco_entities.specs.declared.place.Place.{Place}

-- a living entity's name, arity and place, where it has them
pub record Registration : Type 0 where
  pub name : Option (List ℕ)
  pub arity : Option ℕ
  pub place : Option Place

-- a new entity has this name, or none, and this arity, or none, and no place yet
abbrev pub newcomer : Option (List ℕ) → Option ℕ → Registration
newcomer name arity = record { name = name; arity = arity; place = None }

-- the name, if there is one
abbrev pub given_name : Registration → Option (List ℕ)
given_name r = r.name

-- the arity of a living entity, where it has one
abbrev pub own_arity : Indexed Registration → Entity → Option ℕ
own_arity w e = option_and_then (λ r. r.arity) (record_of w e)

-- the place of a living entity, where it has one
abbrev pub own_place : Indexed Registration → Entity → Option Place
own_place w e = option_and_then (λ r. r.place) (record_of w e)

-- who lives in a state at index n
abbrev pub entity_in : {A : Type 0} → ℕ → Option (IndexState A) → Option Entity
entity_in n None = None
entity_in n (Some Retired) = None
entity_in n (Some (Free g)) = None
entity_in n (Some (Living g r)) = Some (record { index = n; generation = g })

-- the living entity at an index
abbrev pub entity_at : {A : Type 0} → Indexed A → ℕ → Option Entity
entity_at w n = entity_in n (slice_get w.indices n)

-- kept at this place
abbrev pub placed : Place → Registration → Registration
placed p r = record r { place = Some p }

-- with this name, or none
abbrev pub renamed : Option (List ℕ) → Registration → Registration
renamed name r = record r { name = name }

-- ---- steps, each with when it may want memory

-- an entity of this name and this arity, or none, is made
abbrev pub CreatesRegistration : Indexed Registration → Option (List ℕ) → Option ℕ → Result Entity Refusal → Indexed Registration → Type 0
CreatesRegistration w name arity = Meets (Makes given_name w (newcomer name arity)) (may_make given_name w name) w

-- the entity has this name, or none, from then on
abbrev pub RenamesRegistration : Indexed Registration → Entity → Option (List ℕ) → Result (Unit {0}) Refusal → Indexed Registration → Type 0
RenamesRegistration w e name = Meets (RenamesWith given_name renamed w e false name) (may_rename given_name w e false name) w
