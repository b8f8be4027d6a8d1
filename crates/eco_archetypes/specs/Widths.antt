-- How many fields the tables keep of values.
use Rattle.std.specs.Prelude.{◌≡◌, ℕ, ◌≤◌, ◌==◌, ◌&&◌, List, [], ◌∷◌, length, Option, Some, IsTrue}
use Rattle.eco_ids.specs.declared.id.Id.{Id}
use Rattle.eco_ids.specs.Indices.{Indexed}
use Rattle.eco_entities.specs.Needs.{need}
use Rattle.eco_entities.specs.Registration.{Registration}
use Rattle.eco_ids.specs.declared.value.Value.{Value}
use Rattle.eco_ids.specs.declared.value.TheConstants.{FIELD_COUNT}
use Rattle.eco_ids.specs.Data.{is_zero_past}
use Rattle.eco_tables.specs.Table.{TableState, Agree, width_in}
use Rattle.eco_tables.specs.Tables.{table_in}

-- an id is as wide in each table that has it
abbrev pub AreAgreed : List (Option TableState) → Type 0
AreAgreed slots = (n m : ℕ) → Agree (table_in slots n) (table_in slots m)

-- each table keeps as many fields of an id as values of it may need
pub record MeetsNeeds (need : Id → ℕ) (slots : List (Option TableState)) : Type 0 where
  pub each : (n : ℕ) (i : Id) (k : ℕ) → width_in (table_in slots n) i ≡ Some k → need i ≤ k

-- whatever values may need, the new tables keep it if the old ones did
abbrev pub KeepsWidths : List (Option TableState) → List (Option TableState) → Type 0
KeepsWidths old new = (need : Id → ℕ) → MeetsNeeds need old → MeetsNeeds need new

-- the new tables keep as many fields as values may need by this index, if the old ones did
abbrev pub StillCover : Indexed Registration → List (Option TableState) → List (Option TableState) → Type 0
StillCover w old new = MeetsNeeds (need w) old → MeetsNeeds (need w) new

-- each table that has the id keeps so many fields of it
abbrev pub FitsAll : List (Option TableState) → Id → ℕ → Type 0
FitsAll slots i width = (n k : ℕ) → width_in (table_in slots n) i ≡ Some k → k ≡ width

-- the new tables keep as many fields as values may need, if the old ones did and one more of the id keeps enough
abbrev pub LetsGrow : List (Option TableState) → List (Option TableState) → Id → ℕ → Type 0
LetsGrow old new i width = (need : Id → ℕ) → need i ≤ width → MeetsNeeds need old → MeetsNeeds need new

-- a new table may keep so many fields of an id: as many as those that have it, and as many as it may need if they do
pub record IsWidth (need : Id → ℕ) (slots : List (Option TableState)) (i : Id) (width : ℕ) : Type 0 where
  pub few : width ≤ FIELD_COUNT
  pub agrees : FitsAll slots i width
  pub covers : MeetsNeeds need slots → need i ≤ width

-- one such width for each of the ids
abbrev pub AreWidths : (Id → ℕ) → List (Option TableState) → List Id → List ℕ → Type 0
AreWidths need slots [] [] = Unit {0}
AreWidths need slots [] (w ∷ ws) = ⊥
AreWidths need slots (i ∷ is) [] = ⊥
AreWidths need slots (i ∷ is) (w ∷ ws) = IsWidth need slots i w × AreWidths need slots is ws

-- the value has all its fields, and those past what the tables keep of the id are 0
abbrev pub FitsIn : List (Option TableState) → Id → Value → Type 0
FitsIn slots i v = (need : Id → ℕ) × MeetsNeeds need slots × IsTrue ((length v.0 == FIELD_COUNT) && is_zero_past (need i) v)
