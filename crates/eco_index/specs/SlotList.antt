-- Slots that lie close together, with the place of each.
use Rattle.std.specs.Prelude.{◌≡◌, ℕ, ◌<◌, ◌≤◌, ◌-◌, ◌/◌, ◌&&◌, ◌||◌, Bool, List, length, nat_le, nat_lt, slice_index}

-- the slots of a list, and the one before which none of them lies
pub record SlotListModel : Type 0 where
  pub first : ℕ
  pub slots : List ℕ

-- a slot lies so close to the first that it may come to so many others: less than 64 places are passed over, or with it less than
-- four for each
abbrev pub lies_close : ℕ → ℕ → ℕ → Bool
lies_close first slot count = nat_le first slot && (nat_lt (slot - first) 64 || nat_le ((slot - first) / 4) count)

-- none of the slots lies before the first, and how far it lies from there leads to its place
abbrev pub LeadToPlaces : ℕ → List ℕ → List ℕ → Type 0
LeadToPlaces first slots places = (i : ℕ) → i < length slots
    → (first ≤ slice_index slots i) × (slice_index slots i - first < length places) × (slice_index places (slice_index slots i - first) ≡ i)

-- no place is lost, and none changes
abbrev pub KeepsPlaces : List ℕ → List ℕ → Type 0
KeepsPlaces old new = (i : ℕ) → i < length old → (i < length new) × (slice_index new i ≡ slice_index old i)
