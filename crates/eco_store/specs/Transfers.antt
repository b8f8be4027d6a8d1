-- All rows of a table go to another.
use Rattle.std.specs.Prelude.{◌≡◌, ◌≢◌, ℕ, ◌+◌, ◌≤◌, ◌==◌, ◌&&◌, nat_lt, List, [], ◌∷◌, map, length, nat_eq}
use Rattle.std.specs.Prelude.{Option, option_map, IsSome, IsTrue, if◌then◌else◌}
use Rattle.std.specs.List.{All, list_any}
use Rattle.eco_ids.specs.Indices.{Indexed, map_state}
use Rattle.eco_entities.specs.declared.place.Place.{Place}
use Rattle.eco_entities.specs.Registration.{Registration}
use Rattle.eco_tables.specs.Table.{TableState}
use Rattle.eco_tables.specs.Tables.{slot_of, table_in}
use Rattle.eco_store.specs.declared.transfer.Transfer.{Transfer}
use Rattle.eco_archetypes.specs.declared.type_change.TypeChange.{TypeChange}
use Rattle.eco_archetypes.specs.Archetypes.{type_at, SameTypes}
use Rattle.eco_store.specs.Staying.{KeepsRoomIn}

-- the change of type that comes with it
abbrev pub change_of : List (Option TableState) → Transfer → TypeChange
change_of slots t = record { from = (table_in slots t.from).ids; to = (table_in slots t.to).ids }

-- both tables of the transfer are in these slots
abbrev pub IsNamed : List ℕ → Transfer → Type 0
IsNamed slots t = IsTrue (list_any (nat_eq t.from) slots) × IsTrue (list_any (nat_eq t.to) slots)

-- likewise of each transfer
abbrev pub AreNamed : List ℕ → List Transfer → Type 0
AreNamed slots ts = All (λ t. IsNamed slots t) ts

-- the tables of each transfer are there, and the changes of type are these
pub record IsPlan (slots : List (Option TableState)) (transfers : List Transfer) (changes : List TypeChange) : Type 0 where
  pub sources : All (λ t. IsSome (slot_of slots t.from)) transfers
  pub targets : All (λ t. IsSome (slot_of slots t.to)) transfers
  pub types : map (change_of slots) transfers ≡ changes

-- the tables in some slots keep their types, and have no more rows and no less room
pub record Thins (old new : List (Option TableState)) (slots : List ℕ) : Type 0 where
  pub types : (n : ℕ) → IsTrue (list_any (nat_eq n) slots) → type_at new n ≡ type_at old n
  pub rows : (n : ℕ) → IsTrue (list_any (nat_eq n) slots) → length (table_in new n).rows ≤ length (table_in old n).rows
  pub room : KeepsRoomIn old new slots

-- how many rows the transfers bring to a slot
abbrev pub due : List (Option TableState) → List Transfer → ℕ → ℕ
due slots [] n = 0
due slots (t ∷ ts) n = (if t.to == n then length (table_in slots t.from).rows else 0) + due slots ts n

-- each slot has room for what the transfers bring
abbrev pub HasRoom : List (Option TableState) → List Transfer → Type 0
HasRoom slots transfers = (n : ℕ) → due slots transfers n ≤ (table_in slots n).room

-- the transfers make these changes, between targets that have room for all rows that come there
pub record AreTransfersReady (slots : List (Option TableState)) (targets : List ℕ) (transfers : List Transfer) (changes : List TypeChange)
    : Type 0 where
  pub plan : IsPlan slots transfers changes
  pub named : AreNamed targets transfers
  pub room : HasRoom slots transfers

-- a table's rows went to another, which took no more room than they need
pub record Pours (old new : List (Option TableState)) (from to : ℕ) : Type 0 where
  pub types : SameTypes old new
  pub emptied : length (table_in new from).rows ≡ 0
  pub room : (table_in old to).room ≤ (table_in new to).room + length (table_in old from).rows
  pub others : (n : ℕ) → n ≢ from → n ≢ to → slot_of new n ≡ slot_of old n

-- the place of one of the first rows of the table that is left, once those stand in their order in the other one from
-- this row on; any other place stays
abbrev pub place_after : Transfer → ℕ → ℕ → Place → Place
place_after t end count p = if p.table == t.from && nat_lt p.row count then record { table = t.to; row = end + p.row } else p

-- the entity has such a place
abbrev pub placed_after : Transfer → ℕ → ℕ → Registration → Registration
placed_after t end count r = record r { place = option_map (place_after t end count) r.place }

-- so many of the first rows of the table that is left are placed there
abbrev pub with_places : Indexed Registration → Transfer → ℕ → ℕ → Indexed Registration
with_places w t end count = record w { indices = map (map_state (placed_after t end count)) w.indices }
