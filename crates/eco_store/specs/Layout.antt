-- The entities of a store in their tables, and how these change.
use Rattle.std.specs.Prelude.{◌≡◌, ◌≢◌, ℕ, IsTrue, List, [], ◌∷◌, ◌++◌, length, nat_eq, slice_get, slice_index_or, slice_set}
use Rattle.std.specs.Prelude.{Bool, IfOk, MatchBool, Option, OnErr, OnOk, Result, Some}
use Rattle.std.specs.List.{list_any, swap_remove}
use Rattle.eco_ids.specs.declared.entity.Entity.{Entity}
use Rattle.eco_ids.specs.declared.id.Id.{Id}
use Rattle.eco_tables.specs.Table.{TableRow, TableState, retyped_row, entities_of}
use Rattle.eco_tables.specs.Tables.{slot_of, table_in, no_row, new_row, with_row, SetsSlot}
use Rattle.eco_entities.specs.declared.place.Place.{Place}
use Rattle.eco_entities.specs.Needs.{need}
use Rattle.eco_entities.specs.Registration.{placed}
use Rattle.eco_ids.specs.Indices.{changed, Indexed}
use Rattle.eco_ids.specs.World.{Record}
use Rattle.eco_archetypes.specs.Archetypes.{RowlessIn, SameRows, SameSlots}
use Rattle.eco_archetypes.specs.Widths.{MeetsNeeds}
use Rattle.eco_store.specs.declared.layout.Layout.{Layout}
use Rattle.eco_store.specs.Moving.{AdmitsRow, LeavesRoom}
use Rattle.eco_store.specs.Staying.{only_idle, all_staying, SameIn}
use Rattle.eco_archetypes.specs.Shown.{IsStore, read}
use Rattle.eco_archetypes.specs.Records.{stepped, Tries}
use Rattle.eco_store.specs.Transfers.{Pours, Thins}

-- what is seen of a layout: the record of each living entity
abbrev pub seen : Layout → Indexed Record
seen l = read l.entities l.archetypes

-- store: entities and rows agree; covers: tables keep as many fields as values may need; tidy: each table without rows is in
-- one of these slots
pub record IsLaidBut (l : Layout) (slots : List ℕ) : Type 0 where
  pub store : IsStore l.entities l.archetypes
  pub covers : MeetsNeeds (need l.entities) l.archetypes
  pub tidy : RowlessIn l.archetypes slots

-- the parts agree, and no table is without rows but those that stay
abbrev pub IsLaid : Layout → Type 0
IsLaid l = IsLaidBut l (all_staying l.staying)

-- or the one in this slot
abbrev pub IsLaidBeside : Layout → ℕ → Type 0
IsLaidBeside l n = IsLaidBut l (n ∷ all_staying l.staying)

-- and no call is under way
pub record IsSettled (l : Layout) : Type 0 where
  pub laid : IsLaid l
  pub done : l.staying ≡ only_idle l.staying.idle

-- ---- what calls leave

-- all is seen to be so, or, where memory is refused, as it was
pub record Attempts {A E : Type 0} (old new : Layout) (w : Indexed Record) (r : Result A E) : Type 0 where
  pub laid : IsLaid new
  pub tries : Tries (seen old) w r (seen new)

-- an entity gets an id or loses it, or nothing is changed; the table in a slot keeps its type, and room but for one row
pub record StepsBeside {A E : Type 0} (old new : Layout) (step : Entity × Id) (n : ℕ) (r : Result A E) : Type 0 where
  pub steps : Attempts old new (stepped (seen old) step) r
  pub kept : OnOk r (LeavesRoom old.archetypes new.archetypes n)

-- the table in a slot took the next type of the only entity in it, or no slot has changed
pub record TurnsTable {E : Type 0} (old new : Layout) (step : Entity × Id) (n : ℕ) (r : Result Bool E) : Type 0 where
  pub laid : IsLaid new
  pub entities : new.entities ≡ old.entities
  pub staying : new.staying ≡ record old.staying { idle = new.staying.idle }
  pub took : IfOk r (λ took. MatchBool took (seen new ≡ stepped (seen old) step) (SameSlots old.archetypes new.archetypes))
  pub others : (m : ℕ) → m ≢ n → slot_of new.archetypes m ≡ slot_of old.archetypes m
  pub err : OnErr r (seen new ≡ seen old)

-- the entity is placed at the end of the table in a slot, in a row of its own
pub record SeatsEntity (old new : Layout) (e : Entity) (n : ℕ) : Type 0 where
  pub placed : new.entities ≡ changed old.entities e (placed (record { table = n; row = length (table_in old.archetypes n).rows }))
  pub row : SetsSlot old.archetypes new.archetypes n (Some (with_row (table_in old.archetypes n) (new_row e)))
  pub covers : MeetsNeeds (need old.entities) old.archetypes → MeetsNeeds (need new.entities) new.archetypes
  pub staying : new.staying ≡ old.staying

-- tables without rows may have gone, but for targets, and others are idle
pub record Releases (old new : Layout) : Type 0 where
  pub laid : IsLaid new
  pub entities : new.entities ≡ old.entities
  pub rows : SameRows old.archetypes new.archetypes
  pub staying : new.staying ≡ record old.staying { idle = new.staying.idle }
  pub targets : SameIn old.archetypes new.archetypes old.staying.targets

-- tables may have come, and targets: no row has changed
pub record Plans (old new : Layout) : Type 0 where
  pub laid : IsLaid new
  pub entities : new.entities ≡ old.entities
  pub rows : SameRows old.archetypes new.archetypes
  pub targets : (n : ℕ) → IsTrue (list_any (nat_eq n) old.staying.targets) → IsTrue (list_any (nat_eq n) new.staying.targets)

-- a row may have gone to the table in a slot
pub record Carries (old new : Layout) (to : ℕ) : Type 0 where
  pub laid : IsLaid new
  pub staying : new.staying ≡ record old.staying { idle = new.staying.idle }
  pub admits : AdmitsRow old.archetypes new.archetypes old.staying.targets to

-- all rows of one table went to another, both of them targets
pub record Empties (old new : Layout) (from to : ℕ) : Type 0 where
  pub laid : IsLaid new
  pub staying : new.staying ≡ old.staying
  pub pours : Pours old.archetypes new.archetypes from to

-- rows may have gone
pub record LosesRows (old new : Layout) : Type 0 where
  pub laid : IsLaid new
  pub targets : new.staying.targets ≡ old.staying.targets
  pub thins : Thins old.archetypes new.archetypes old.staying.targets

-- ---- rows

-- the rows of the table in a slot; none, where it is empty
abbrev pub rows_in : List (Option TableState) → ℕ → List TableRow
rows_in slots n = (table_in slots n).rows

-- the table in a slot has these rows, and every other the rows that it had
pub record SetsRows (old new : ℕ → List TableRow) (n : ℕ) (rows : List TableRow) : Type 0 where
  pub changed : new n ≡ rows
  pub others : (m : ℕ) → m ≢ n → new m ≡ old m

-- the entity has a row of this type at the end of a table, with zeros
pub record PutsRow (old new : ℕ → List TableRow) (p : Place) (e : Entity) (ids : List Id) : Type 0 where
  pub end : p.row ≡ length (old p.table)
  pub rows : SetsRows old new p.table (old p.table ++ retyped_row ids (new_row e) ∷ [])

-- the row went, the last one of its table took its place, and this entity stands there now, if one does
pub record TakesRow (old new : ℕ → List TableRow) (p : Place) (moved : Option Entity) : Type 0 where
  pub rows : SetsRows old new p.table (swap_remove (old p.table) p.row no_row)
  pub filled : moved ≡ slice_get (entities_of (new p.table)) p.row

-- the row went to the end of another table, of this type, and the last one of its table took its place
pub record MovesRow (old new : ℕ → List TableRow) (from to : Place) (ids : List Id) (moved : Option Entity)
    : Type 0 where
  pub apart : from.table ≢ to.table
  pub end : to.row ≡ length (old to.table)
  pub source : new from.table ≡ swap_remove (old from.table) from.row no_row
  pub target : new to.table
      ≡ old to.table ++ retyped_row ids (slice_index_or (old from.table) from.row no_row) ∷ []
  pub others : (n : ℕ) → n ≢ from.table → n ≢ to.table → new n ≡ old n
  pub filled : moved ≡ slice_get (entities_of (new from.table)) from.row

-- the row has this type where it stands
abbrev pub RetypesRow : (ℕ → List TableRow) → (ℕ → List TableRow) → Place → List Id → Type 0
RetypesRow old new p ids =
    SetsRows old new p.table (slice_set (old p.table) p.row (retyped_row ids (slice_index_or (old p.table) p.row no_row)))
