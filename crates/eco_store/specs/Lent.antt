-- What a store lends: its tables, in which what is data has fields.
use Rattle.std.specs.Prelude.{◌≡◌, ◌≤◌, ℕ, List, Option, Some}
use Rattle.eco_ids.specs.declared.id.Id.{Id}
use Rattle.eco_ids.specs.Indices.{Indexed}
use Rattle.eco_ids.specs.World.{Record}
use Rattle.eco_entities.specs.Needs.{fields_for}
use Rattle.eco_tables.specs.Table.{TableState, width_in}
use Rattle.eco_tables.specs.Tables.{table_in}
use Rattle.eco_archetypes.specs.Archetypes.{type_at}
use Rattle.eco_store.specs.Store.{arity_in_store}
use Rattle.eco_archetypes.specs.Shown.{IsShown}

-- the table keeps as many fields of each of its ids as the id's arity says: what is data has a column
abbrev pub KeepsData : Indexed Record → TableState → Type 0
KeepsData w t = (i : Id) (n : ℕ) → width_in t i ≡ Some n → fields_for (arity_in_store w i) ≤ n

-- each of the tables does
abbrev pub KeepData : Indexed Record → List (Option TableState) → Type 0
KeepData w slots = (n : ℕ) → KeepsData w (table_in slots n)

-- the tables of a store: each living entity stands in one row, no two tables have the same type, and what is data has
-- a column
pub record AreTablesOf (w : Indexed Record) (slots : List (Option TableState)) : Type 0 where
  pub shown : IsShown w slots
  pub kept : KeepData w slots
  pub kinds : (n m : ℕ) (ids : List Id) → type_at slots n ≡ Some ids → type_at slots m ≡ Some ids → n ≡ m

-- the table is one of a store's
abbrev pub IsTableOf : Indexed Record → TableState → Type 0
IsTableOf w t = (slots : List (Option TableState)) × (n : ℕ) × AreTablesOf w slots × (table_in slots n ≡ t)
