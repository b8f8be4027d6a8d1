-- Who stands in the tables of some slots.
use Rattle.std.specs.Prelude.{◌≡◌, ◌≢◌, ℕ, ◌<◌, ◌+◌, zero, suc, List, [], ◌∷◌, ◌++◌, length, map, slice_index_or}
use Rattle.std.specs.Prelude.{Option, None, Some, option_to_list}
use Rattle.std.specs.List.Sorted.{IsPermutation, IsSortedByKey, IsSortedWithin}
use Rattle.std.specs.Ordering.{is_lt}
use Rattle.eco_ids.specs.World.{Record}
use Rattle.eco_ids.specs.Order.{entity_cmp}
use Rattle.eco_ids.specs.Indices.{Indexed, IndexState}
use Rattle.eco_ids.specs.declared.entity.Entity.{Entity}
use Rattle.eco_entities.specs.Registration.{Registration}
use Rattle.eco_tables.specs.Table.{TableState, entities_of}
use Rattle.eco_tables.specs.Tables.{table_in}
use Rattle.eco_archetypes.specs.Seats.{Seat, seated_entity}
use Rattle.eco_archetypes.specs.Shown.{seat_at, seat_in}
use Rattle.eco_archetypes.specs.Records.{type_in_store}
use Rattle.eco_store.specs.declared.standing.Standing.{Standing}

-- the entity in the first table
abbrev pub in_first : Entity → Standing
in_first e = record { entity = e; place = 0 }

-- who stands in the tables of these slots, each with the place of its slot, counted from i
abbrev pub standings : ℕ → List (Option TableState) → List ℕ → List Standing
standings i tables [] = []
standings i tables (n ∷ ns) = map (λ e. record { entity = e; place = i }) (entities_of (table_in tables n).rows) ++ standings (suc i) tables ns

-- the list has exactly these, ascending by their entities
pub record AreRanked (ones ranked : List Standing) : Type 0 where
  pub all : IsPermutation ones ranked
  pub sorted : IsSortedByKey (λ (s : Standing). s.entity) entity_cmp ranked

-- before this place no entity is below the one before it
abbrev pub AscendTo : List Entity → ℕ → Type 0
AscendTo es n = IsSortedWithin (λ (a b : Entity). is_lt (entity_cmp a b)) es 0 n

-- the place is one of a slot whose table has the entity's own ids
abbrev pub StandsIn : Indexed Record → List (Option TableState) → List ℕ → Standing → Type 0
StandsIn w tables slots s =
    (s.place < length slots) × (type_in_store w s.entity ≡ Some (table_in tables (slice_index_or slots s.place 0)).ids)

-- the number of a slot, 0 where it has none
abbrev pub slot_number : List ℕ → ℕ → ℕ
slot_number numbers n = slice_index_or numbers n 0

-- the first so many slots have their places for numbers, counted from 1, and no other slot has a number
pub record IsNumbering (slots : List ℕ) (count : ℕ) (numbers : List ℕ) : Type 0 where
  pub places : (n k : ℕ) → slot_number numbers n ≡ suc k → (k < count) × (slice_index_or slots k 0 ≡ n)
  pub others : (n k : ℕ) → slot_number numbers n ≡ 0 → k < count → slice_index_or slots k 0 ≢ n

-- the entity with the place that the number says
abbrev pub standing_by : Entity → ℕ → Option Standing
standing_by e zero = None
standing_by e (suc k) = Some (record { entity = e; place = k })

-- the entity of a seat that an index has, where the seat's slot has a number
abbrev pub standing_of : List ℕ → ℕ → Option Seat → Option Standing
standing_of numbers i None = None
standing_of numbers i (Some s) = standing_by (seated_entity i s) (slot_number numbers s.slot)

-- the living entity at an index, where its slot has a number
abbrev pub standing_at : List ℕ → Indexed Registration → ℕ → Option Standing
standing_at numbers w i = standing_of numbers i (seat_at w i)

-- all who live in these states, which are those from index i on, and whose slots have a number
abbrev pub standing_from : List ℕ → ℕ → List (IndexState Registration) → List Standing
standing_from numbers i [] = []
standing_from numbers i (s ∷ rest) = option_to_list (standing_of numbers i (seat_in (Some s))) ++ standing_from numbers (i + 1) rest

-- the list is what a walk over the indices finds in these slots
abbrev pub IsWalked : Indexed Registration → List ℕ → List Standing → Type 0
IsWalked w slots list = (numbers : List ℕ) × IsNumbering slots (length slots) numbers × (list ≡ standing_from numbers 0 w.indices)
