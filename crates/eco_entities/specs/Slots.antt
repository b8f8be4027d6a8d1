-- What the slots of the index show of its indices.
use Rattle.std.specs.Prelude.{◌≡◌, ℕ, suc, ◌≤◌, ◌==◌, ◌&&◌, nat_lt, Bool, true, false, if◌then◌else◌, List, [], ◌∷◌, ◌++◌, length, map, set, slice_get}
use Rattle.std.specs.Prelude.{Option, Some, None}
use Rattle.eco_ids.specs.declared.entity.Entity.{Entity}
use Rattle.eco_ids.specs.Indices.{IndexState, Retired, Free, Living}
use Rattle.eco_entities.specs.declared.place.Place.{Place}
use Rattle.eco_entities.specs.declared.slot.Slot.{Slot}
use Rattle.eco_entities.specs.declared.slot.State.{State}
use Rattle.eco_entities.specs.declared.slot.State.TheVariants as state
use Rattle.eco_entities.specs.Registration.{Registration}

-- an entity lives there
abbrev pub is_living : State → Bool
is_living state.Retired = false
is_living state.Free = false
is_living state.Plain = true
is_living state.Named = true
is_living state.Component = true
is_living state.NamedComponent = true

-- an entity with a name lives there
abbrev pub is_named : State → Bool
is_named state.Retired = false
is_named state.Free = false
is_named state.Plain = false
is_named state.Named = true
is_named state.Component = false
is_named state.NamedComponent = true

-- an entity with an arity lives there
abbrev pub has_arity : State → Bool
has_arity state.Retired = false
has_arity state.Free = false
has_arity state.Plain = false
has_arity state.Named = false
has_arity state.Component = true
has_arity state.NamedComponent = true

-- the arity, where there is one
abbrev pub arity_in : Slot → Option ℕ
arity_in s = if has_arity s.state then Some s.arity else None

-- the place, where there is one: no row has the highest number
abbrev pub place_in : Slot → Option Place
place_in s = if s.row == 4294967295 then None else Some (record { table = s.table; row = s.row })

-- what is kept of a living entity at an index with this label, which is its name where it has one
abbrev pub registration_of : Option (List ℕ) → Slot → Registration
registration_of label s = record { name = if is_named s.state then label else None; arity = arity_in s; place = place_in s }

-- retired, or free or living at the generation
abbrev pub state_at : State → ℕ → Registration → IndexState Registration
state_at state.Retired g r = Retired
state_at state.Free g r = Free g
state_at state.Plain g r = Living g r
state_at state.Named g r = Living g r
state_at state.Component g r = Living g r
state_at state.NamedComponent g r = Living g r

-- the state of the slot's index
abbrev pub state_of : Option (List ℕ) → Slot → IndexState Registration
state_of label s = state_at s.state s.generation (registration_of label s)

-- the state of each index, with the labels by index
abbrev pub states : (ℕ → Option (List ℕ)) → List Slot → List (IndexState Registration)
states label [] = []
states label (s ∷ rest) = state_of (label 0) s ∷ states (λ n. label (suc n)) rest

-- the slot where an entity of the generation lives there
abbrev pub living_in : Option Slot → ℕ → Option Slot
living_in None g = None
living_in (Some s) g = if is_living s.state && g == s.generation then Some s else None

-- the slot of a living entity
abbrev pub living_slot : List Slot → Entity → Option Slot
living_slot slots e = living_in (slice_get slots e.index) e.generation

-- with x at a place of the list, or after its end
abbrev pub put_at : {X : Type 0} → ℕ → X → List X → List X
put_at i x xs = if nat_lt i (length xs) then set xs i x else xs ++ x ∷ []

-- an index that is known or the first unknown one, with a mark for each slot and room for one more
pub record IsNextSlot (index slots marks : ℕ) : Type 0 where
  pub within : index ≤ slots
  pub marked : marks ≡ slots
  pub room : slots ≤ 1048576

-- somebody may live there, and nobody does
abbrev pub is_free : {A : Type 0} → IndexState A → Bool
is_free Retired = false
is_free (Free g) = true
is_free (Living g r) = false

-- the generation at which an index is used next: 0 where it is unknown
abbrev pub next_generation : {A : Type 0} → Option (IndexState A) → ℕ
next_generation None = 0
next_generation (Some Retired) = 0
next_generation (Some (Free g)) = g
next_generation (Some (Living g r)) = 0

-- a generation is at most 65,535
abbrev pub GenerationFits : {A : Type 0} → Option (IndexState A) → Type 0
GenerationFits None = Unit {0}
GenerationFits (Some Retired) = Unit {0}
GenerationFits (Some (Free g)) = g ≤ 65535
GenerationFits (Some (Living g r)) = g ≤ 65535

-- the indices lie below the limit, the free ones are marked, and the generations fit
pub record IsMarked (limit : ℕ) (states : List (IndexState Registration)) (marks : List Bool) : Type 0 where
  pub limited : limit ≤ 1048576
  pub within : length states ≤ limit
  pub marked : marks ≡ map is_free states
  pub fit : (i : ℕ) → GenerationFits (slice_get states i)
