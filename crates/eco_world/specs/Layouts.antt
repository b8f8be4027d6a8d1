-- The tables that a world lists.
use Rattle.std.specs.Prelude.{◌≡◌, ℕ, Bool, true, false, ◌&&◌, List, Option, Some, None, IsSome, filter, is_some, map, nat_lt, unwrap_or}
use Rattle.std.specs.List.Sorted.{IsSortedByKey}
use Rattle.std.specs.Cmp.Lexicographic.{slice_cmp}
use Rattle.std.specs.declared.cmp.Ordering.{Ordering}
use Rattle.std.specs.declared.cmp.Ordering.TheVariants.{Less, Equal, Greater}
use Rattle.eco_ids.specs.declared.id.Id.{Id}
use Rattle.eco_ids.specs.declared.pattern.Pattern.{Pattern}
use Rattle.eco_ids.specs.declared.value.Value.{Value}
use Rattle.eco_ids.specs.Data.{arity}
use Rattle.eco_ids.specs.Layout.{ListedTable, IsLayout, tables_with}
use Rattle.eco_ids.specs.Order.{has_item, id_cmp}
use Rattle.eco_ids.specs.World.{WorldState, held_by}
use Rattle.eco_query.specs.Queries.{QuerySlot, matches_type}
use Rattle.eco_tables.specs.Column.{value_in}
use Rattle.eco_tables.specs.Table.{TableState, entities_of, width_in}
use Rattle.eco_tables.specs.Tables.{slot_of, table_in}
use Rattle.eco_world.specs.declared.table_rows.TableRows.{TableRows}

-- what a listed table stands for
abbrev pub listed_of : TableRows → ListedTable
listed_of t = record { ids = t.ids.now; entities = t.entities.now }

-- what listed tables stand for
abbrev pub listed : List TableRows → List ListedTable
listed tables = map listed_of tables

-- a table of the store, as a world lists it
abbrev pub shown_of : TableState → ListedTable
shown_of t = record { ids = t.ids; entities = entities_of t.rows }

-- the table in a slot, as a world lists it
abbrev pub shown_at : List (Option TableState) → ℕ → ListedTable
shown_at slots n = shown_of (table_in slots n)

-- a listed table with the table that lends its values, and the world that knows what is data
abbrev pub lent : TableRows → ListedTable × TableState × WorldState
lent t = (listed_of t, t.table.now, t.world.now)

-- a table of the store, as a world lists and lends it
abbrev pub lent_of : WorldState → TableState → ListedTable × TableState × WorldState
lent_of w t = (shown_of t, t, w)

-- the table in a slot, as a world lists and lends it
abbrev pub lent_at : WorldState → List (Option TableState) → ℕ → ListedTable × TableState × WorldState
lent_at w slots n = lent_of w (table_in slots n)

-- the value of the id in each row, in their order; zeros where the type lacks it
abbrev pub column_in : TableState → Id → List Value
column_in t i = map (λ r. value_in r.held i) t.rows

-- what a listed table lends as the values of the id
abbrev pub lent_by : TableRows → Id → List Value
lent_by t i = column_in t.table.now i

-- it lends values of the id: the id is data, and the table keeps fields of it
abbrev pub is_lent : TableRows → Id → Bool
is_lent t i = is_some (arity t.world.now i) && nat_lt 0 (unwrap_or (width_in t.table.now i) 0)

-- the table keeps a width for each of its ids, which may be 0
abbrev pub IsWhole : TableRows → Type 0
IsWhole t = (i : Id) → has_item id_cmp t.table.now.ids i ≡ true → IsSome (width_in t.table.now i)

-- a listed table lends what its entities have in the world
pub record LendsValues (w : WorldState) (t : TableRows) : Type 0 where
  -- of each id, in their order; zeros where they lack the id
  pub values : (i : Id) → lent_by t i ≡ map (λ e. value_in (held_by w e) i) t.entities.now
  -- of exactly those of its ids that are data
  pub data_ids : (i : Id) → is_lent t i ≡ (has_item id_cmp t.ids.now i && is_some (arity w i))

-- the slot has a table
abbrev pub HasTable : List (Option TableState) → ℕ → Type 0
HasTable slots n = IsSome (slot_of slots n)

-- no table's type is below that of the one before it
abbrev pub IsByType : List TableRows → Type 0
IsByType tables = IsSortedByKey (λ (t : TableRows). t.ids.now) (slice_cmp id_cmp) tables

-- these are the tables of a layout of the world whose type passes
abbrev pub ListsBy : WorldState → (List Id → Bool) → List ListedTable → Type 0
ListsBy w passes tables = (layout : List ListedTable) × IsLayout w layout × (tables ≡ filter (λ t. passes t.ids) layout)

-- these are the tables of a layout of the world whose type has an id that matches
abbrev pub ListsWith : WorldState → Pattern → List ListedTable → Type 0
ListsWith w p tables = (layout : List ListedTable) × IsLayout w layout × (tables ≡ tables_with p layout)

-- these are the tables of a layout of the world whose type the query matches
abbrev pub ListsOf : WorldState → List QuerySlot → List ListedTable → Type 0
ListsOf w query = ListsBy w (λ ids. matches_type ids query)

-- whether the first of two comes before the second; nothing where they tie
abbrev pub decided : Ordering → Option Bool
decided Less = Some true
decided Equal = None
decided Greater = Some false
