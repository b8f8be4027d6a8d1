-- Where the entities of a store stand, and what its tables show of them.
use Rattle.std.specs.Prelude.{◌≡◌, ℕ, ◌<◌, length, slice_index_or, List, [], map, slice_get, Option, None, Some, IsSome, option_map}
use Rattle.eco_ids.specs.declared.entity.Entity.{Entity}
use Rattle.eco_ids.specs.declared.id.Id.{Id}
use Rattle.eco_ids.specs.declared.value.Value.{Value}
use Rattle.eco_ids.specs.Indices.{Indexed, IndexState, Retired, Free, Living, record_of, map_state}
use Rattle.eco_ids.specs.World.{Record}
use Rattle.eco_entities.specs.declared.place.Place.{Place}
use Rattle.eco_entities.specs.Registration.{Registration, entity_at, own_place}
use Rattle.eco_tables.specs.Table.{TableState, TableRow, RowsHaveIds}
use Rattle.eco_tables.specs.Tables.{table_in}
use Rattle.eco_archetypes.specs.Archetypes.{row_at}
use Rattle.eco_archetypes.specs.Seats.{Seat, IsSeated, held_of}

-- what the row at a place holds
abbrev pub held_at : (ℕ → ℕ → Option TableRow) → Option Place → List (Id × Value)
held_at E None = []
held_at E (Some p) = held_of (E p.table p.row)

-- the name and the arity of a registration, and what its row holds
abbrev pub record_for : (ℕ → ℕ → Option TableRow) → Registration → Record
record_for E r = record { name = r.name; arity = r.arity; held = held_at E r.place }

-- the record of each living entity, read from the rows
abbrev pub read : Indexed Registration → List (Option TableState) → Indexed Record
read w slots = record { limit = w.limit; indices = map (map_state (record_for (row_at slots))) w.indices }

-- the seat at a place, of an entity of this generation
abbrev pub seat_of_place : ℕ → Place → Seat
seat_of_place g p = record { generation = g; slot = p.table; row = p.row }

-- the seat of who lives in this state
abbrev pub seat_in : Option (IndexState Registration) → Option Seat
seat_in None = None
seat_in (Some Retired) = None
seat_in (Some (Free g)) = None
seat_in (Some (Living g r)) = option_map (seat_of_place g) r.place

-- the seat of the living entity at an index
abbrev pub seat_at : Indexed Registration → ℕ → Option Seat
seat_at w i = seat_in (slice_get w.indices i)

-- who lives in this state has a place
abbrev pub HasPlace : Option (IndexState Registration) → Type 0
HasPlace None = Unit {0}
HasPlace (Some Retired) = Unit {0}
HasPlace (Some (Free g)) = Unit {0}
HasPlace (Some (Living g r)) = IsSome r.place

-- each who lives has a place, in a table whose slot lies below the bound
abbrev pub AreHoused : ℕ → Indexed Registration → Type 0
AreHoused bound w = (i : ℕ) (e : Entity) → entity_at w i ≡ Some e → (p : Place) × (own_place w e ≡ Some p) × (p.table < bound)

-- each living entity stands in one row, and each row's entity lives
pub record IsStore (w : Indexed Registration) (slots : List (Option TableState)) : Type 0 where
  pub seated : IsSeated (seat_at w) (row_at slots)
  pub placed : (i : ℕ) → HasPlace (slice_get w.indices i)

-- the record is that of an entity whose row in the table is there, and which holds what the row does
pub record StandsAt (k : Record) (t : TableState) (row : ℕ) : Type 0 where
  pub within : row < length t.rows
  pub held : (r : TableRow) → k.held ≡ (slice_index_or t.rows row r).held

-- such a record is there
abbrev pub Stands : Option Record → TableState → ℕ → Type 0
Stands None t row = ⊥
Stands (Some k) t row = StandsAt k t row

-- the tables in these slots show the store: each row is a living entity's, with what that holds, each living entity has
-- exactly one row, and a row has a value for each id of its table's type
pub record IsShown (w : Indexed Record) (slots : List (Option TableState)) : Type 0 where
  pub rows : (n row : ℕ) (r : TableRow) → row_at slots n row ≡ Some r → Stands (record_of w r.entity) (table_in slots n) row
  pub living : (e : Entity) (k : Record) → record_of w e ≡ Some k
      → (n : ℕ) × (row : ℕ) × (r : TableRow) × (row_at slots n row ≡ Some r) × (r.entity ≡ e)
  pub once : (n row m other : ℕ) (r x : TableRow) → row_at slots n row ≡ Some r → row_at slots m other ≡ Some x → r.entity ≡ x.entity
      → (n ≡ m) × (row ≡ other)
  pub own : (n : ℕ) → RowsHaveIds (table_in slots n)

-- entities: a record of each living entity by its index; slots: the tables in which they stand
pub record PlacesState : Type 0 where
  pub entities : Indexed Record
  pub slots : List (Option TableState)
