-- Which tables are without rows, after rows came and went.
use Rattle.eco_store.proofs.Common.{◌≡◌, ◌≢◌, ◌<◌, ℕ, Bool, true, false, ◌||◌, IsTrue, List, []}
use Rattle.eco_store.proofs.Common.{◌∷◌, ◌++◌, length, Option, Some, None}
use Rattle.eco_store.proofs.Common.{unwrap_or, IsSome, zero, suc, is_some, nat_eq, slice_get, slice_set, refl, sym, ap, subst, ◌∙◌, arith, inl, inr}
use Rattle.eco_store.proofs.Common.{list_any, cases_eq, length-append, TableState, TableRow, slot_of, table_in, no_table, rowless, rowless_type, SetsSlot}
use Rattle.eco_store.proofs.Common.{Moves, with_row, not_equal, is_rowless, RowlessIn, SameRows, SameTypes, Transfer, IsNamed, Pours, StayingState, all_staying}
use Rattle.eco_store.proofs.Common.{with_gathered, with_target, or_right, type_there, there_as_typed, list_any-append, same_Some}
use Rattle.eco_store.proofs.Targets.{is_targeted, still_targeted}
use Rattle.eco_store.proofs.Pouring.{rows_same}
use Rattle.eco_store.proofs.RowChanges.{is_equal}
use Rattle.eco_store.proofs.Views.{at_each}

-- a table without rows is there, and has none
pub rowless_there : (s : List (Option TableState)) (n : ℕ) → IsTrue (is_rowless s n) → IsSome (slot_of s n) × ((table_in s n).rows ≡ [])
rowless_there s n = by (slot_of s n)
  where
    of_rows : (t : TableState) (rows : List TableRow) → IsTrue (is_some (rowless t rows)) → rows ≡ []
    of_rows t [] h = refl
    of_rows t (r ∷ rest) h = absurd (cc)

    by : (o : Option TableState) → IsTrue (is_some (rowless_type o)) → IsSome o × ((unwrap_or o no_table).rows ≡ [])
    by None h = absurd (cc)
    by (Some t) h = (refl, of_rows t t.rows h)

pub rowless_from : (s : List (Option TableState)) (n : ℕ) → IsSome (slot_of s n) → (table_in s n).rows ≡ [] → IsTrue (is_rowless s n)
rowless_from s n = by (slot_of s n)
  where
    by : (o : Option TableState) → IsSome o → (unwrap_or o no_table).rows ≡ [] → IsTrue (is_some (rowless_type o))
    by None h none = absurd (cc)
    by (Some t) h none = ap (λ rows. is_some (rowless t rows)) none

-- more slots may be without rows
pub rowless_more : (s : List (Option TableState)) (few many : List ℕ)
    → ((n : ℕ) → IsTrue (list_any (nat_eq n) few) → IsTrue (list_any (nat_eq n) many)) →
    RowlessIn s few → RowlessIn s many
rowless_more s few many more was n empty = more n (was n empty)

among_first : (n : ℕ) (slots : List ℕ) → IsTrue (list_any (nat_eq n) (n ∷ slots))
among_first n slots = ap (λ b. b || list_any (nat_eq n) slots) (is_equal n n refl)

-- one of the slots is among the others
pub rowless_twice : (s : List (Option TableState)) (n : ℕ) (slots : List ℕ) → IsTrue (list_any (nat_eq n) slots) → RowlessIn s (n ∷ slots)
    → RowlessIn s slots
rowless_twice s n slots among =
    rowless_more s (n ∷ slots) slots
    (at_each n (λ m. IsTrue (list_any (nat_eq m) (n ∷ slots)) → IsTrue (list_any (nat_eq m) slots)) (λ there. among)
    (λ m other there. sym (ap (λ b. b || list_any (nat_eq m) slots) (not_equal m n other)) ∙ there))

-- a table that has rows is none of those without
pub rowless_kept : (s : List (Option TableState)) (n : ℕ) (slots : List ℕ) → 0 < length (table_in s n).rows → RowlessIn s (n ∷ slots)
    → RowlessIn s slots
rowless_kept s n slots some was =
    at_each n (λ m. IsTrue (is_rowless s m) → IsTrue (list_any (nat_eq m) slots))
    (λ empty. absurd (omega (arith, ap length (rowless_there s n empty).1, some)))
    (λ m other empty. sym (ap (λ b. b || list_any (nat_eq m) slots) (not_equal m n other)) ∙ was m empty)

-- tables keep their types and their rows
pub rowless_same : (s s' : List (Option TableState)) (slots : List ℕ) → SameRows s s' → SameTypes s s' → RowlessIn s slots → RowlessIn s' slots
rowless_same s s' slots rows types was n empty =
    let now = rowless_there s' n empty in
    let there : IsSome (slot_of s n) = there_as_typed s n (table_in s' n).ids (sym (types n) ∙ type_there s' n now.0) in
    was n (rowless_from s n there (sym (rows_same s s' rows n) ∙ now.1))

module _ (s s' : List (Option TableState)) (n : ℕ) (slots : List ℕ) where
  others_rowless : (slot : Option TableState) → SetsSlot s s' n slot → (m : ℕ) → m ≢ n → IsTrue (is_rowless s' m) → IsTrue (is_rowless s m)
  others_rowless slot sets m other empty = sym (ap (λ o. is_some (rowless_type o)) (sets.others m other)) ∙ empty

  -- a table got a row
  pub rowless_filled : (t : TableState) (r : TableRow) → SetsSlot s s' n (Some (with_row t r)) → RowlessIn s (n ∷ slots) → RowlessIn s' slots
  rowless_filled t r sets was =
      at_each n (λ m. IsTrue (is_rowless s' m) → IsTrue (list_any (nat_eq m) slots))
      (λ empty.
      let some : length (table_in s' n).rows ≡ length (with_row t r).rows = ap (λ o. length (unwrap_or o no_table).rows) sets.changed in
      let len = length-append t.rows in
      absurd (omega (arith, ap length (rowless_there s' n empty).1, some, len)))
      (λ m other empty.
      sym (ap (λ b. b || list_any (nat_eq m) slots) (not_equal m n other)) ∙ was m (others_rowless (Some (with_row t r)) sets m other empty))

  -- a table may have lost its last row
  pub rowless_emptied : (slot : Option TableState) → SetsSlot s s' n slot → RowlessIn s slots → RowlessIn s' (n ∷ slots)
  rowless_emptied slot sets was =
      at_each n (λ m. IsTrue (is_rowless s' m) → IsTrue (list_any (nat_eq m) (n ∷ slots))) (λ empty. among_first n slots)
      (λ m other empty. ap (λ b. b || list_any (nat_eq m) slots) (not_equal m n other) ∙ was m (others_rowless slot sets m other empty))

  -- a table has as many rows as before
  pub rowless_rewritten : (slot : Option TableState) → SetsSlot s s' n slot → length (table_in s' n).rows ≡ length (table_in s n).rows
      → IsSome (slot_of s n) →
      RowlessIn s slots → RowlessIn s' slots
  rowless_rewritten slot sets as_many there was =
      at_each n (λ m. IsTrue (is_rowless s' m) → IsTrue (list_any (nat_eq m) slots))
      (λ empty.
      was n (rowless_from s n there (no_rows (table_in s n).rows (omega (arith, ap length (rowless_there s' n empty).1, as_many)))))
      (λ m other empty. was m (others_rowless slot sets m other empty))
    where
      no_rows : (rows : List TableRow) → length rows ≡ 0 → rows ≡ []
      no_rows [] h = refl
      no_rows (r ∷ rest) h = absurd (omega (arith, h))

-- a row went from one table to another
pub rowless_moved : (s s' : List (Option TableState)) (from row to : ℕ) (slots : List ℕ) → Moves s s' from row to → RowlessIn s (to ∷ slots) →
    RowlessIn s' (from ∷ slots)
rowless_moved s s' from row to slots moves was =
    at_each from (λ m. IsTrue (is_rowless s' m) → IsTrue (list_any (nat_eq m) (from ∷ slots))) (λ empty. among_first from slots)
    (at_each to (λ m. m ≢ from → IsTrue (is_rowless s' m) → IsTrue (list_any (nat_eq m) (from ∷ slots)))
    (λ not_from empty.
    let some = ap (λ o. length (unwrap_or o no_table).rows) moves.target in
    let len = length-append (table_in s to).rows in
    absurd (omega (arith, ap length (rowless_there s' to empty).1, some, len)))
    (λ m not_to not_from empty.
    let before = sym (ap (λ o. is_some (rowless_type o)) (moves.others m not_from not_to)) ∙ empty in
    ap (λ b. b || list_any (nat_eq m) slots) (not_equal m from not_from)
    ∙ (sym (ap (λ b. b || list_any (nat_eq m) slots) (not_equal m to not_to)) ∙ was m before)))

or_turned : (a b c d e : Bool) → (IsTrue (a || d) → IsTrue (b || e)) → IsTrue (a || (c || d)) → IsTrue (b || (c || e))
or_turned a true c d e kept h = refl
or_turned a false true d e kept h = refl
or_turned true false false d e kept h = kept refl
or_turned false false false d e kept h = kept h

-- a slot is among others once another of them gives its place to one more
among_rested : (m slot before : ℕ) (idle : List ℕ) (k : ℕ) → slice_get idle k ≡ Some before → IsTrue (list_any (nat_eq m) (slot ∷ idle))
    → IsTrue (list_any (nat_eq m) (before ∷ slice_set idle k slot))
among_rested m slot before [] k at = absurd (cc)
among_rested m slot before (n ∷ idle) zero at =
    subst (λ x. IsTrue (nat_eq m slot || (nat_eq m x || list_any (nat_eq m) idle)) → IsTrue (nat_eq m before || (nat_eq m slot || list_any (nat_eq m) idle)))
    (same_Some before n (sym at)) (swap (nat_eq m slot) (nat_eq m before) (list_any (nat_eq m) idle))
  where
    swap : (a b c : Bool) → IsTrue (a || (b || c)) → IsTrue (b || (a || c))
    swap true true c h = refl
    swap true false c h = refl
    swap false true c h = refl
    swap false false c h = h
among_rested m slot before (n ∷ idle) (suc k) at =
    or_turned (nat_eq m slot) (nat_eq m before) (nat_eq m n) (list_any (nat_eq m) idle) (list_any (nat_eq m) (slice_set idle k slot))
    (among_rested m slot before idle k at)

-- a table without rows rests in the place of another, which may be without rows
pub rowless_rested : (s : List (Option TableState)) (slots idle : List ℕ) (k slot before : ℕ) → slice_get idle k ≡ Some before
    → RowlessIn s (slot ∷ (slots ++ idle)) → RowlessIn s (before ∷ (slots ++ slice_set idle k slot))
rowless_rested s slots idle k slot before at =
    rowless_more s (slot ∷ (slots ++ idle)) (before ∷ (slots ++ slice_set idle k slot)) (λ m there.
    let rested = slice_set idle k slot in
    rw (list_any-append (nat_eq m) slots rested)
    (or_turned (nat_eq m slot) (nat_eq m before) (list_any (nat_eq m) slots) (list_any (nat_eq m) idle) (list_any (nat_eq m) rested)
    (among_rested m slot before idle k at)
    (rw (list_any-append (nat_eq m) slots idle) at there)))

-- a slot among some is among these and others
pub among_more : (slots others : List ℕ) (m : ℕ) → IsTrue (list_any (nat_eq m) slots) → IsTrue (list_any (nat_eq m) (slots ++ others))
among_more slots others m there = list_any-append (nat_eq m) slots others ∙ ap (λ b. b || list_any (nat_eq m) others) there

pub among_last : (slots others : List ℕ) (m : ℕ) → IsTrue (list_any (nat_eq m) others) → IsTrue (list_any (nat_eq m) (slots ++ others))
among_last slots others m there =
    list_any-append (nat_eq m) slots others ∙ or_right (list_any (nat_eq m) slots) (list_any (nat_eq m) others) there

-- the tables of a transfer are targets, and so they stay
pub named_stays : (p : StayingState) (t : Transfer) → IsNamed p.targets t → IsNamed (all_staying p) t
named_stays p t named = (stays t.from named.0, stays t.to named.1)
  where
    stays : (m : ℕ) → IsTrue (list_any (nat_eq m) p.targets) → IsTrue (list_any (nat_eq m) (all_staying p))
    stays m there = among_more (p.gathered ++ p.targets) p.idle m (among_last p.gathered p.targets m there)

-- whether a slot is one of those that stay
among_staying : (p : StayingState) (m : ℕ) → list_any (nat_eq m) (all_staying p)
    ≡ ((list_any (nat_eq m) p.gathered || list_any (nat_eq m) p.targets) || list_any (nat_eq m) p.idle)
among_staying p m =
    list_any-append (nat_eq m) (p.gathered ++ p.targets) p.idle
    ∙ ap (λ b. b || list_any (nat_eq m) p.idle) (list_any-append (nat_eq m) p.gathered p.targets)

-- a slot becomes one of the targets
pub rowless_targeted : (s : List (Option TableState)) (p : StayingState) (n : ℕ) → RowlessIn s (n ∷ all_staying p)
    → RowlessIn s (all_staying (with_target p n))
rowless_targeted s p n =
    rowless_more s (n ∷ all_staying p) (all_staying (with_target p n)) (λ m there.
    rw (among_staying (with_target p n) m)
    (elim (cases_eq m n) [
      | inl here ↦
          now_there (list_any (nat_eq m) p.gathered) (list_any (nat_eq m) (with_target p n).targets) (list_any (nat_eq m) p.idle)
          (subst (λ k. IsTrue (list_any (nat_eq k) (with_target p n).targets)) (sym here) (is_targeted p n))
      | inr other ↦
          still_there (list_any (nat_eq m) p.gathered) (list_any (nat_eq m) p.targets) (list_any (nat_eq m) (with_target p n).targets)
          (list_any (nat_eq m) p.idle) (still_targeted p n m)
          (sym (among_staying p m) ∙ sym (ap (λ b. b || list_any (nat_eq m) (all_staying p)) (not_equal m n other)) ∙ there)
    ]))
  where
    now_there : (a b c : Bool) → IsTrue b → IsTrue ((a || b) || c)
    now_there true b c h = refl
    now_there false b c h = ap (λ x. x || c) h

    still_there : (a b b' c : Bool) → (IsTrue b → IsTrue b') → IsTrue ((a || b) || c) → IsTrue ((a || b') || c)
    still_there true b b' c kept h = refl
    still_there false true b' c kept h = ap (λ x. x || c) (kept refl)
    still_there false false true c kept h = refl
    still_there false false false c kept h = h

-- a slot is gathered
pub rowless_gathered : (s : List (Option TableState)) (p : StayingState) (n : ℕ) → RowlessIn s (n ∷ all_staying p)
    → RowlessIn s (all_staying (with_gathered p n))
rowless_gathered s p n =
    rowless_more s (n ∷ all_staying p) (all_staying (with_gathered p n)) (λ m there.
    rw (among_staying (with_gathered p n) m)
    (rw (list_any-append (nat_eq m) p.gathered (n ∷ []))
    (last (nat_eq m n) (list_any (nat_eq m) p.gathered) (list_any (nat_eq m) p.targets) (list_any (nat_eq m) p.idle)
    (sym (ap (λ b. nat_eq m n || b) (among_staying p m)) ∙ there))))
  where
    last : (x a b c : Bool) → IsTrue (x || ((a || b) || c)) → IsTrue (((a || (x || false)) || b) || c)
    last x true b c h = refl
    last true false b c h = refl
    last false false b c h = h

-- one more slot may be without rows
pub rowless_beside : (s : List (Option TableState)) (n : ℕ) (slots : List ℕ) → RowlessIn s slots → RowlessIn s (n ∷ slots)
rowless_beside s n slots = rowless_more s slots (n ∷ slots) (λ m there. or_right (nat_eq m n) (list_any (nat_eq m) slots) there)

-- where all rows of a slot went to another, no table but those two is newly without rows
pub rowless_poured : (s s' : List (Option TableState)) (from to : ℕ) → Pours s s' from to → (slots : List ℕ) → IsTrue (list_any (nat_eq from) slots)
    → IsTrue (list_any (nat_eq to) slots) → RowlessIn s slots → RowlessIn s' slots
rowless_poured s s' from to pours slots has_from has_to was =
    at_each from (λ n. IsTrue (is_rowless s' n) → IsTrue (list_any (nat_eq n) slots)) (λ without. has_from)
    (at_each to (λ n. n ≢ from → IsTrue (is_rowless s' n) → IsTrue (list_any (nat_eq n) slots)) (λ not_from without. has_to)
    (λ n not_to not_from without. was n (sym (ap (λ o. is_some (rowless_type o)) (pours.others n not_from not_to)) ∙ without)))
