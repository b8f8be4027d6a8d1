-- What is left where tables went.
use Rattle.std.specs.Prelude.{◌≡◌, ◌⊎◌, ◌&&◌, ℕ, Bool, cond, nat_eq, List, Option, None, is_some, ◌++◌}
use Rattle.std.specs.List.{list_any}
use Rattle.eco_tables.specs.Table.{TableState}
use Rattle.eco_tables.specs.Tables.{slot_of}
use Rattle.eco_archetypes.specs.Archetypes.{is_rowless, RowlessIn, SameRows}
use Rattle.eco_archetypes.specs.Widths.{KeepsWidths}

-- there is a table in the slot
abbrev pub has_table : List (Option TableState) → ℕ → Bool
has_table slots n = is_some (slot_of slots n)

-- each slot has what it had, or nothing
abbrev pub IsLess : List (Option TableState) → List (Option TableState) → Type 0
IsLess old new = (n : ℕ) → (slot_of new n ≡ slot_of old n) ⊎ (slot_of new n ≡ None)

-- those of these slots whose tables have no rows have nothing from now on, and every other slot keeps what it had
abbrev pub DropsRowless : List (Option TableState) → List (Option TableState) → List ℕ → Type 0
DropsRowless old new slots =
    (n : ℕ) → slot_of new n ≡ cond (is_rowless old n && list_any (nat_eq n) slots) None (slot_of old n)

-- those tables went that had no rows, and nothing else has changed
pub record Sweeps (old new : List (Option TableState)) (slots : List ℕ) : Type 0 where
  pub dropped : DropsRowless old new slots
  pub rowless : (others : List ℕ) → RowlessIn old (slots ++ others) → RowlessIn new others
  pub rows : SameRows old new
  pub widths : KeepsWidths old new
