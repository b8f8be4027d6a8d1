-- The tables up to a slot, and what they are found by.
use Rattle.eco_archetypes.proofs.Common.{◌≡◌, ◌≢◌, ℕ, zero, suc, ◌+◌, ◌<◌, ◌≤◌, List, [], ◌∷◌, take, slice_get, Option}
use Rattle.eco_archetypes.proofs.Common.{Some, None, option_map, unwrap_or, is_some, refl, sym, ap, ◌∙◌, arith, inl, inr}
use Rattle.eco_archetypes.proofs.Common.{cases_lt, Id, TableState, TableRow, slot_of, no_table, with_room, without_room, rowless, rowless_type, SetsSlot}
use Rattle.eco_archetypes.proofs.Common.{AreCopies, type_at, RowlessIn, SameRows}
use Rattle.eco_archetypes.proofs.Widths.{AreKept, kinds}

abbrev Slots : Type 0
Slots = List (Option TableState)

pub taken_before : (s : Slots) (k n : ℕ) → n < k → slot_of (take k s) n ≡ slot_of s n
taken_before s zero n before = absurd (omega arith)
taken_before [] (suc k) n before = refl
taken_before (x ∷ s) (suc k) zero before = refl
taken_before (x ∷ s) (suc k) (suc n) before = taken_before s k n (omega arith)

pub taken_past : (s : Slots) (k n : ℕ) → k ≤ n → slot_of (take k s) n ≡ None
taken_past s zero n past = refl
taken_past [] (suc k) n past = refl
taken_past (x ∷ s) (suc k) zero past = absurd (omega arith)
taken_past (x ∷ s) (suc k) (suc n) past = taken_past s k n (omega arith)

-- one slot more
pub taken_more : (s : Slots) (k : ℕ) (o : Option TableState) → slot_of s k ≡ o → SetsSlot (take k s) (take (k + 1) s) k o
taken_more s k o at = record {
  changed = taken_before s (k + 1) k (omega arith) ∙ at;
  others = λ n other. elim (cases_lt n k) [
    | inl before ↦ taken_before s (k + 1) n (omega arith) ∙ sym (taken_before s k n before)
    | inr past ↦ taken_past s (k + 1) n (above n other past) ∙ sym (taken_past s k n past)
  ];
}
  where
    above : (n : ℕ) → n ≢ k → k ≤ n → k + 1 ≤ n
    above n other past = elim (cases_lt k n) [
      | inl less ↦ omega (arith, less)
      | inr most ↦ absurd (other (omega (arith, past, most)))
    ]

abbrev type_in : Option TableState → Option (List Id)
type_in o = option_map (λ t. t.ids) o

-- ---- tables and their copies

module _ (s copies : Slots) (are : AreCopies s copies) where
  copied_as : {X : Type 0} (f : Option TableState → X) → ((t : TableState) → f (Some (with_room t 0)) ≡ f (Some t)) → (n : ℕ)
      → f (slot_of copies n) ≡ f (slot_of s n)
  copied_as f same n = ap f (are n) ∙ by (slot_of s n)
    where
      by : (o : Option TableState) → f (without_room o) ≡ f o
      by None = refl
      by (Some t) = same t

  pub copied_types : (n : ℕ) → type_at copies n ≡ type_at s n
  copied_types = copied_as type_in (λ t. refl)

  pub copied_rows : SameRows s copies
  copied_rows n row = copied_as (λ o. slice_get (unwrap_or o no_table).rows row) (λ t. refl) n

  pub copied_kept : AreKept s copies
  copied_kept = record { each = λ n. inl (copied_as kinds (λ t. refl) n) }

  pub copied_rowless : (slots : List ℕ) → RowlessIn s slots → RowlessIn copies slots
  copied_rowless slots was n empty = was n (sym (copied_as (λ o. is_some (rowless_type o)) (λ t. by t t.rows) n) ∙ empty)
    where
      by : (t : TableState) (rows : List TableRow) → is_some (rowless (with_room t 0) rows) ≡ is_some (rowless t rows)
      by t [] = refl
      by t (r ∷ rest) = refl
