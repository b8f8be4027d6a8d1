-- The slots whose tables stay though they may be without rows.
use Rattle.std.specs.Prelude.{◌≡◌, ℕ, ◌≤◌, IsTrue, List, [], ◌∷◌, ◌++◌, nat_eq, Option, Some, if◌then◌else◌}
use Rattle.std.specs.Prelude.{slice_get, slice_set}
use Rattle.std.specs.List.{list_any}
use Rattle.eco_tables.specs.Table.{TableState}
use Rattle.eco_tables.specs.Tables.{slot_of, table_in}

-- targets: slots to which or from which rows go, while a call changes many entities; gathered: slots whose tables lost all
-- rows and are to go together; idle: slots whose tables lost their last row, and stay too
pub record StayingState : Type 0 where
  pub targets : List ℕ
  pub gathered : List ℕ
  pub idle : List ℕ

-- each of these slots has what it had
abbrev pub SameIn : List (Option TableState) → List (Option TableState) → List ℕ → Type 0
SameIn old new slots = (n : ℕ) → IsTrue (list_any (nat_eq n) slots) → slot_of new n ≡ slot_of old n

-- each of these slots has the room that it had, or more
abbrev pub KeepsRoomIn : List (Option TableState) → List (Option TableState) → List ℕ → Type 0
KeepsRoomIn old new slots = (n : ℕ) → IsTrue (list_any (nat_eq n) slots) → (table_in old n).room ≤ (table_in new n).room

-- no target, and nothing is gathered
abbrev pub only_idle : List ℕ → StayingState
only_idle idle = record { targets = []; gathered = []; idle = idle }

-- the slots whose tables may be without rows
abbrev pub all_staying : StayingState → List ℕ
all_staying p = p.gathered ++ p.targets ++ p.idle

-- the slot is an idle one from then on, in the place of another
abbrev pub Rests : StayingState → StayingState → ℕ → ℕ → Type 0
Rests old new slot before = (k : ℕ) × (slice_get old.idle k ≡ Some before) × (new ≡ record old { idle = slice_set old.idle k slot })

-- one more, if it is none of them
abbrev pub with_target : StayingState → ℕ → StayingState
with_target p n = record p { targets = if list_any (nat_eq n) p.targets then p.targets else p.targets ++ n ∷ [] }

-- one more to go with others
abbrev pub with_gathered : StayingState → ℕ → StayingState
with_gathered p n = record p { gathered = p.gathered ++ n ∷ [] }
