-- Items of a row by their slot.
use Rattle.std.specs.Prelude.{ℕ, List, Option, None, slice_get, unwrap_or}

-- what stands at the slot, if there is such a slot and something stands there
abbrev pub item_at : {A : Type 0} → List (Option A) → ℕ → Option A
item_at items slot = unwrap_or (slice_get items slot) None
