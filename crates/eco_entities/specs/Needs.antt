-- How many fields a value of an id may ever have.
use Rattle.std.specs.Prelude.{ℕ, ◌≤◌, ◌==◌, nat_lt, min, max, slice_get, Option, None, Some, unwrap_or, if◌then◌else◌}
use Rattle.eco_ids.specs.declared.entity.Entity.{Entity}
use Rattle.eco_ids.specs.declared.id.Id.{Id}
use Rattle.eco_ids.specs.declared.id.Id.TheVariants.{One, Two}
use Rattle.eco_ids.specs.declared.value.TheConstants.{FIELD_COUNT}
use Rattle.eco_ids.specs.Indices.{Indexed, IndexState, Retired, Free, Living}
use Rattle.eco_entities.specs.Registration.{Registration}
use Rattle.eco_entities.specs.Runs.{Call, LeadsTo}

-- so many as the arity says, none where there is none
abbrev pub fields_for : Option ℕ → ℕ
fields_for arity = min (unwrap_or arity 0) FIELD_COUNT

-- the most fields that values of a generation may have, by the state of its index: the living one's arity says it; who may
-- yet live may use all; who is dead for good uses none
abbrev pub need_in : Option (IndexState Registration) → ℕ → ℕ
need_in None g = FIELD_COUNT
need_in (Some Retired) g = 0
need_in (Some (Free f)) g = if nat_lt g f then 0 else FIELD_COUNT
need_in (Some (Living f r)) g = if g == f then fields_for r.arity else (if nat_lt g f then 0 else FIELD_COUNT)

-- the same, of an entity
abbrev pub need_of : Indexed Registration → Entity → ℕ
need_of w e = need_in (slice_get w.indices e.index) e.generation

-- the same, of an id: a pair's values have the fields of its relationship's or of its target's
abbrev pub need : Indexed Registration → Id → ℕ
need w (One e) = need_of w e
need w (Two r t) = max (need_of w r) (need_of w t)

-- no call lets an id need more than it may have needed before
abbrev pub NeedsNeverGrow : Type 0
NeedsNeverGrow = (old new : Indexed Registration) (c : Call) → LeadsTo c old new → (i : Id) → need new i ≤ need old i
