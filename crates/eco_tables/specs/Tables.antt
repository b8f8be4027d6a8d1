-- Tables in slots.
use Rattle.std.specs.Prelude.{◌≡◌, ◌≢◌, ℕ, ◌-◌, ◌+◌, ◌≤◌, ◌<◌, List, [], ◌∷◌, ◌++◌, Option, None, Some}
use Rattle.std.specs.Prelude.{length, map, count_by, is_some, slice_index_or}
use Rattle.std.specs.Prelude.{slice_set, unwrap_or, if◌then◌else◌, option_map}
use Rattle.std.specs.List.{swap_remove, All}
use Rattle.eco_ids.specs.declared.entity.Entity.{Entity}
use Rattle.eco_ids.specs.declared.id.Id.{Id}
use Rattle.eco_ids.specs.declared.value.Value.{Value}
use Rattle.eco_ids.specs.Order.{id_eq}
use Rattle.eco_tables.specs.Column.{with_held}
use Rattle.eco_tables.specs.Table.{TableState, TableRow, retyped_row, width_in, RowsHaveIds, TypeAscends}

-- the table in a slot, if there is one
abbrev pub slot_of : List (Option TableState) → ℕ → Option TableState
slot_of slots n = slice_index_or slots n None

-- what stands for a table where there is none
abbrev pub no_table : TableState
no_table = record { ids = []; widths = []; rows = []; room = 0 }

-- what stands for a row where there is none
abbrev pub no_row : TableRow
no_row = record { entity = record { index = 0; generation = 0 }; held = [] }

-- the table in a slot, one without ids, rows and room where there is none
abbrev pub table_in : List (Option TableState) → ℕ → TableState
table_in slots n = unwrap_or (slot_of slots n) no_table

-- a row of the table in a slot
abbrev pub row_in : List (Option TableState) → ℕ → ℕ → TableRow
row_in slots n row = slice_index_or (table_in slots n).rows row no_row

-- the new slots have this at n, and every other slot keeps what it had
pub record SetsSlot (old new : List (Option TableState)) (n : ℕ) (slot : Option TableState) : Type 0 where
  pub changed : slot_of new n ≡ slot
  pub others : (m : ℕ) → m ≢ n → slot_of new m ≡ slot_of old m

-- the table with so much room
abbrev pub with_room : TableState → ℕ → TableState
with_room t n = record t { room = n }

-- the same table, without room
abbrev pub without_room : Option TableState → Option TableState
without_room o = option_map (λ t. with_room t 0) o

-- each slot has the table that it has there, without room
abbrev pub AreCopies : List (Option TableState) → List (Option TableState) → Type 0
AreCopies slots copies = (n : ℕ) → slot_of copies n ≡ without_room (slot_of slots n)

-- the new slots have at n the same table with other room, and every other slot keeps what it had
abbrev pub SetsRoom : List (Option TableState) → List (Option TableState) → ℕ → Type 0
SetsRoom old new n = SetsSlot old new n (Some (with_room (table_in old n) (table_in new n).room))

-- the row with this value at the id, where it has the id
abbrev pub row_with : TableRow → Id → Value → TableRow
row_with r i v = record { entity = r.entity; held = with_held r.held i v }

-- the table with this value at the id in the row
abbrev pub with_written : TableState → ℕ → Id → Value → TableState
with_written t row i v = record t { rows = slice_set t.rows row (row_with (slice_index_or t.rows row no_row) i v) }

-- the row of an entity that nothing is known of but zeros
abbrev pub new_row : Entity → TableRow
new_row e = record { entity = e; held = [] }

-- the table with the rows at its end, under its own type
abbrev pub with_rows : TableState → List TableRow → TableState
with_rows t rs = record t { rows = t.rows ++ map (retyped_row t.ids) rs; room = t.room - length rs }

-- the table with the row at its end, under its own type
abbrev pub with_row : TableState → TableRow → TableState
with_row t r = with_rows t (r ∷ [])

-- the table without the row, whose place the last one takes; the room of one row is won
abbrev pub without_row : TableState → ℕ → TableState
without_row t row = record t { rows = swap_remove t.rows row no_row; room = t.room + 1 }

-- the table without rows, whose room is won
abbrev pub cleared : TableState → TableState
cleared t = record t { rows = []; room = t.room + length t.rows }

-- the table without rows; no room is promised in it any more
abbrev pub without_rows : TableState → TableState
without_rows t = record t { rows = []; room = 0 }

-- the table under these ids, of which one may be new to it: that one is so wide and holds zeros, the others stay as they are
abbrev pub turned : TableState → List Id → Id → ℕ → TableState
turned t ids i w = record {
  ids = ids;
  widths = map (λ j. if id_eq j i then w else unwrap_or (width_in t j) 0) ids;
  rows = map (retyped_row ids) t.rows;
  room = t.room;
}

-- the type, where these rows are none
abbrev pub rowless : TableState → List TableRow → Option (List Id)
rowless t [] = Some t.ids
rowless t (r ∷ rest) = None

-- the type of the table in a slot, if there is one and it has no rows
abbrev pub rowless_type : Option TableState → Option (List Id)
rowless_type None = None
rowless_type (Some t) = rowless t t.rows

-- one row went from one table to the end of another, and the last row of the first took its place
pub record Moves (old new : List (Option TableState)) (from row to : ℕ) : Type 0 where
  pub source : slot_of new from ≡ Some (without_row (table_in old from) row)
  pub target : slot_of new to ≡ Some (with_row (table_in old to) (row_in old from row))
  pub others : (n : ℕ) → n ≢ from → n ≢ to → slot_of new n ≡ slot_of old n

-- all rows of one table went to the end of another
pub record MovesAll (old new : List (Option TableState)) (from to : ℕ) : Type 0 where
  pub source : slot_of new from ≡ Some (without_rows (table_in old from))
  pub target : slot_of new to ≡ Some (with_rows (table_in old to) (table_in old from).rows)
  pub others : (n : ℕ) → n ≢ from → n ≢ to → slot_of new n ≡ slot_of old n

-- each row of each table has a value for each id of the table's type
abbrev pub AllHaveIds : List (Option TableState) → Type 0
AllHaveIds slots = (n : ℕ) → RowsHaveIds (table_in slots n)

-- the ids of each table's type ascend
abbrev pub AllAscend : List (Option TableState) → Type 0
AllAscend slots = (n : ℕ) → TypeAscends (table_in slots n)

-- the slots without a table are kept, each once, with room for the slots of all tables that may be dropped
pub record AreSlots (slots : List (Option TableState)) (vacant : List ℕ) (capacity : ℕ) : Type 0 where
  pub empty : All (λ n. (n < length slots) × (slot_of slots n ≡ None)) vacant
  pub once : (j k d : ℕ) → j < length vacant → k < length vacant → slice_index_or vacant j d ≡ slice_index_or vacant k d → j ≡ k
  pub counted : length vacant + count_by is_some slots ≡ length slots
  pub ready : length slots ≤ capacity
  pub have_ids : AllHaveIds slots
  pub ascend : AllAscend slots
