-- Rows that a world lends.
use Rattle.std.specs.Prelude.{◌≡◌, ℕ, ◌+◌, ◌<◌, Bool, ◌&&◌, false, not, List, [], ◌∷◌, Option, None, Some, if◌then◌else◌}
use Rattle.std.specs.Prelude.{is_some}
use Rattle.std.specs.Prelude.{length, map, option_map, slice_get}
use Rattle.eco_ids.specs.declared.entity.Entity.{Entity}
use Rattle.eco_ids.specs.declared.id.Id.{Id}
use Rattle.eco_ids.specs.declared.pattern.Pattern.TheVariants.{One, Two}
use Rattle.eco_ids.specs.declared.value.Value.{Value}
use Rattle.eco_ids.specs.Data.{arity_of, value_of}
use Rattle.eco_ids.specs.World.{WorldState}
use Rattle.eco_query.specs.declared.slot.Slot.{Slot}
use Rattle.eco_query.specs.declared.term.Term.{Term}
use Rattle.eco_query.specs.declared.term.Term.TheVariants.{And, Not, Optional, Or}
use Rattle.eco_systems.specs.Rows.{ValuedRow, entry_values, shows_values, valued, valued_rows}
use Rattle.eco_tables.specs.Values.{whole_values}
use Rattle.eco_world.specs.Layouts.{is_lent, lent_by}
use Rattle.eco_world.specs.declared.table_rows.TableRows.{TableRows}
use Rattle.eco_frame.specs.declared.column.Column.{Column}
use Rattle.eco_frame.specs.declared.row.WorldRow.{WorldRow}
use Rattle.eco_frame.specs.declared.column_row.ColumnRow.{ColumnRow}
use Rattle.eco_frame.specs.declared.column_rows.ColumnRows.{ColumnRows}
use Rattle.eco_frame.specs.declared.row_columns.RowColumns.{RowColumns}

-- the row that is lent: its entity and entries, with the values that the world has for them
abbrev pub world_row : WorldRow → ValuedRow
world_row r = valued r.entity.world r.query.now (record { entity = r.entity.entity; entries = r.entries.now })

-- the term asks for a single id that is no data
abbrev pub asks_no_data : WorldState → Term → Bool
asks_no_data w (And (One e)) = not (is_some (arity_of w e))
asks_no_data w (And (Two r t)) = false
asks_no_data w (Not p) = false
asks_no_data w (Optional i) = false
asks_no_data w (Or v) = false

-- the slot may show a value
abbrev pub may_show : WorldState → Slot → Bool
may_show w s = shows_values s.access && not (asks_no_data w s.term)

-- what a column shows in a row
abbrev pub shown_in : ℕ → Column → Option Value
shown_in row c = slice_get (whole_values c.values) row

-- what a table lends in a row as the value of an id, where it lends values of it
abbrev pub lent_value : TableRows → ℕ → Id → Option Value
lent_value t row i = if is_lent t i then slice_get (lent_by t i) row else None

-- whoever stands in a row of a table has in the world what the table lends there
abbrev pub LendsRows : WorldState → TableRows → Type 0
LendsRows w t = (row : ℕ) (e : Entity) → slice_get t.entities.now row ≡ Some e → (i : Id) → value_of w e i ≡ lent_value t row i

-- the same of a table that was found
abbrev pub lent_in : Option (TableRows × ℕ) → ℕ → Id → Option Value
lent_in None row i = None
lent_in (Some x) row i = lent_value x.0 row i

-- who stands in it
abbrev pub entities_in : Option (TableRows × ℕ) → List Entity
entities_in None = []
entities_in (Some x) = x.0.entities.now

-- the row of columns that is lent: what they show where it stands are its values
abbrev pub column_row : ColumnRow → ValuedRow
column_row r = record { entity = r.entity; entries = r.entries.now; values = map (shown_in r.row) r.columns.now }

-- consecutive rows of such columns, from one on, each of which is an entity's
abbrev pub lent_rows_from : List (Option Id) → List Column → ℕ → List Entity → List ValuedRow
lent_rows_from entries columns row [] = []
lent_rows_from entries columns row (e ∷ entities) =
    record { entity = e; entries = entries; values = map (shown_in row) columns } ∷ lent_rows_from entries columns (row + 1) entities

-- the rows of columns that are lent
abbrev pub column_rows : ColumnRows → List ValuedRow
column_rows r = lent_rows_from r.entries.now r.columns.now r.first r.entities.now

-- the row that columns show of an entity that stands in this row of their table
abbrev pub run_row : RowColumns → ℕ → Entity → ValuedRow
run_row c row e = record { entity = e; entries = c.entries.now; values = map (shown_in row) c.columns.items }

-- the columns show of an entity in a row what the world has for the entries, which are those of the row for which they were looked for
pub record IsShownOf (c : RowColumns) (row : ℕ) (e : Entity) : Type 0 where
  pub there : c.place < length c.rows.now
  pub entries : option_map (λ r. r.entries) (slice_get c.rows.now c.place) ≡ Some c.entries.now
  pub values : map (shown_in row) c.columns.items ≡ entry_values (value_of c.world.now e) c.query.now c.entries.now

-- they do so of each entity that is named, in its row
pub record IsRun (c : RowColumns) : Type 0 where
  pub rows : c.rows.now ≡ valued_rows c.world.now c.query.now
  pub shown : (row : ℕ) (e : Entity) → slice_get c.entities.now row ≡ Some e → IsShownOf c row e
