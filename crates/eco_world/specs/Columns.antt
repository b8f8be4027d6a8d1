-- The columns of one id.
use Rattle.std.specs.Prelude.{◌≡◌, ◌<◌, ℕ, All, Bool, filter, IfNone, IsTrue, length, List, map, nat_lt, None, Option, Some, [], ◌∷◌}
use Rattle.std.specs.List.Sorted.{IsPermutation}
use Rattle.eco_ids.specs.declared.entity.Entity.{Entity}
use Rattle.eco_ids.specs.declared.id.Id.{Id}
use Rattle.eco_ids.specs.declared.value.Value.{Value}
use Rattle.eco_ids.specs.Layout.{ListedTable, IsLayout}
use Rattle.eco_ids.specs.Order.{has_item, id_cmp}
use Rattle.eco_ids.specs.World.{WorldState, held_by}
use Rattle.eco_tables.specs.Column.{value_in}
use Rattle.eco_tables.specs.Table.{TableState, entities_of, width_in}
use Rattle.eco_tables.specs.Tables.{table_in}
use Rattle.eco_tables.specs.Values.{whole_values}
use Rattle.eco_world.specs.declared.columns.Column.{Column}
use Rattle.eco_world.specs.Layouts.{column_in}

-- entities of one type, and a value for each of them, row by row
pub record ListedColumn : Type 0 where
  pub entities : List Entity
  pub values : List Value

-- what a lent column stands for
abbrev pub lent_column : Column → ListedColumn
lent_column c = record { entities = c.entities.now; values = whole_values c.values }

-- the column of the id in a table
abbrev pub column_of : TableState → Id → ListedColumn
column_of t i = record { entities = entities_of t.rows; values = column_in t i }

-- the table keeps fields of the id
pub record KeepsFields (t : TableState) (i : Id) : Type 0 where
  -- its type has the id
  pub has : IsTrue (has_item id_cmp t.ids i)
  -- and of an id that has a width it keeps one field at least
  pub wide : (k : ℕ) → width_in t i ≡ Some k → 0 < k

-- the same of the table in a slot of the store
abbrev pub column_at : List (Option TableState) → Id → ℕ → ListedColumn
column_at slots i n = column_of (table_in slots n) i

abbrev pub KeepsColumn : List (Option TableState) → Id → ℕ → Type 0
KeepsColumn slots i n = KeepsFields (table_in slots n) i

-- the columns that are left: that which was found ahead, if there is one, and those behind it
abbrev pub with_ahead : Option Column → List ListedColumn → List ListedColumn
with_ahead None columns = columns
with_ahead (Some c) columns = lent_column c ∷ columns

-- the slots behind the column that was found ahead
pub record AreLeft (slots : List (Option TableState)) (i : Id) (ahead : Option Column) (ns : List ℕ) : Type 0 where
  -- the table in each keeps fields of the id
  pub keep : All (KeepsColumn slots i) ns
  -- and there are none where none was found
  pub none : IfNone ahead (ns ≡ [])

-- somebody stands in its rows
abbrev pub has_entities : ListedColumn → Bool
has_entities c = nat_lt 0 (length c.entities)

-- the value in each row is what the world has of the id at the entity in that row
abbrev pub HasValues : WorldState → Id → ListedColumn → Type 0
HasValues w i c = c.values ≡ map (λ e. value_in (held_by w e) i) c.entities

-- these are the columns of an id that is data
pub record ListsColumns (w : WorldState) (i : Id) (columns : List ListedColumn) : Type 0 where
  -- each has the values of its entities
  pub values : All (HasValues w i) columns
  -- there is a layout of the world: the columns that have entities have those of its tables whose type has the id, a column
  -- for each table, in any order
  pub tables : (layout : List ListedTable) × IsLayout w layout
      × IsPermutation (map (λ t. t.entities) (filter (λ t. has_item id_cmp t.ids i) layout))
      (map (λ c. c.entities) (filter has_entities columns))
