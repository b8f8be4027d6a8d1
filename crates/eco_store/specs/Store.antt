-- A store: a record of each living entity, as the world has it, with no table in it.
use Rattle.std.specs.Prelude.{ℕ, ◌==◌, nat_lt, Bool, ◌&&◌, false, Result, length, List, [], map, Option, None, option_and_then, unwrap_or}
use Rattle.std.specs.Option.{option_or}
use Rattle.eco_ids.specs.declared.entity.Entity.{Entity}
use Rattle.eco_ids.specs.declared.id.Id.{Id}
use Rattle.eco_ids.specs.declared.id.Id.TheVariants.{One, Two}
use Rattle.eco_ids.specs.declared.value.Value.{Value}
use Rattle.eco_ids.specs.declared.value.TheConstants.{FIELD_COUNT}
use Rattle.eco_ids.specs.Data.{is_zero_past}
use Rattle.eco_ids.specs.declared.refusal.Refusal.{Refusal}
use Rattle.eco_ids.specs.Births.{Makes, may_make, Admits, may_admit, MakesAliveWith}
use Rattle.eco_ids.specs.Indices.{is_free_at, Indexed, record_of}
use Rattle.eco_ids.specs.Outcome.{Meets}
use Rattle.eco_ids.specs.Renaming.{RenamesWith, may_rename}
use Rattle.eco_ids.specs.Step.{with_name}
use Rattle.eco_ids.specs.World.{Record, zeros}
use Rattle.eco_tables.specs.Column.{with_held}

-- a store: a record of each living entity by its index
pub record StoreState : Type 0 where
  pub entities : Indexed Record

-- the name, if there is one
abbrev pub record_name : Record → Option (List ℕ)
record_name r = r.name

-- the ids, each with zeros
abbrev pub all_zeros : List Id → List (Id × Value)
all_zeros ids = map (λ i. (i, zeros)) ids

-- a new entity of this name and this arity, or none, has these ids
abbrev pub newborn : Option (List ℕ) → Option ℕ → List Id → Record
newborn name arity ids = record { name = name; arity = arity; held = all_zeros ids }

-- the arity of a living entity, where it has one
abbrev pub own_arity_in_store : Indexed Record → Entity → Option ℕ
own_arity_in_store w e = option_and_then (λ r. r.arity) (record_of w e)

-- this value at the id, where it is there
abbrev pub record_with_written : Id → Value → Record → Record
record_with_written i v r = record r { held = with_held r.held i v }

-- the arity of an id: a single has its entity's, a pair its relationship's, else its target's
abbrev pub arity_in_store : Indexed Record → Id → Option ℕ
arity_in_store w (One e) = own_arity_in_store w e
arity_in_store w (Two r t) = option_or (own_arity_in_store w r) (own_arity_in_store w t)

-- a value has all its fields, and those past the id's arity are 0; all are, where it has none
abbrev pub fits_in_store : Indexed Record → Id → Value → Bool
fits_in_store w i v = (length v.0 == FIELD_COUNT) && is_zero_past (unwrap_or (arity_in_store w i) 0) v

-- ---- steps, each with when it may want memory

-- an entity of this name and this arity, or none, is made with these ids
abbrev pub CreatesRecord : Indexed Record → Option (List ℕ) → Option ℕ → List Id → Result Entity Refusal → Indexed Record → Type 0
CreatesRecord w name arity ids = Meets (Makes record_name w (newborn name arity ids)) (may_make record_name w name) w

-- so many more indices are known
abbrev pub Admission : Indexed Record → ℕ → Result (Unit {0}) Refusal → Indexed Record → Type 0
Admission w n = Meets (Admits w n) (may_admit w n && nat_lt 0 n) w

-- a handle that is free lives, without name, arity and ids
abbrev pub MakesRecordAlive : Indexed Record → Entity → Result (Unit {0}) Refusal → Indexed Record → Type 0
MakesRecordAlive w e = Meets (MakesAliveWith w e (newborn None None [])) (is_free_at w e) w

-- the entity has this name, or none, from then on
abbrev pub RenamesRecord : Indexed Record → Entity → Option (List ℕ) → Result (Unit {0}) Refusal → Indexed Record → Type 0
RenamesRecord w e name = Meets (RenamesWith record_name with_name w e false name) (may_rename record_name w e false name) w
