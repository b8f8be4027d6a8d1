-- Each living entity stands in one row, and its seat says which.
use Rattle.std.specs.Prelude.{◌≡◌, ℕ, List, [], Option, None, Some}
use Rattle.eco_ids.specs.declared.entity.Entity.{Entity}
use Rattle.eco_ids.specs.declared.id.Id.{Id}
use Rattle.eco_ids.specs.declared.value.Value.{Value}
use Rattle.eco_tables.specs.Table.{TableRow}

-- the generation of an index's living entity, and its row of the table in a slot
pub record Seat : Type 0 where
  pub generation : ℕ
  pub slot : ℕ
  pub row : ℕ

-- the entity of a seat that an index has
abbrev pub seated_entity : ℕ → Seat → Entity
seated_entity i s = record { index = i; generation = s.generation }

-- the seat of an entity in a row
abbrev pub seat_of : Entity → ℕ → ℕ → Seat
seat_of e n row = record { generation = e.generation; slot = n; row = row }

-- what a row holds
abbrev pub held_of : Option TableRow → List (Id × Value)
held_of None = []
held_of (Some r) = r.held

-- what the entity of a seat holds
abbrev pub held_in_seat : (ℕ → ℕ → Option TableRow) → Seat → List (Id × Value)
held_in_seat E s = held_of (E s.slot s.row)

-- seats and rows name each other
pub record IsSeated (P : ℕ → Option Seat) (E : ℕ → ℕ → Option TableRow) : Type 0 where
  pub there : (i : ℕ) (s : Seat) → P i ≡ Some s → (r : TableRow) × (E s.slot s.row ≡ Some r) × (r.entity ≡ seated_entity i s)
  pub back : (n row : ℕ) (r : TableRow) → E n row ≡ Some r → P r.entity.index ≡ Some (seat_of r.entity n row)
