-- A moved row is a row taken out of one table and put at the end of another.
use Rattle.eco_store.proofs.Common.{◌≡◌, ◌≢◌, ℕ, ◌-◌, ◌<◌, ◌==◌, Bool, true, false, cond, List, [], ◌∷◌, ◌++◌, length}
use Rattle.eco_store.proofs.Common.{slice_get, Option, Some, None, refl, sym, ap, ◌∙◌, arith, inl, inr, swap_remove, cases_eq, cases_lt, Decides-eqb}
use Rattle.eco_store.proofs.Common.{slice_get_past, slice_get-get_or, TableState, TableRow, retyped_row, row_in, no_row, Entity, Id, Place, rows_in, MovesRow}
use Rattle.eco_store.proofs.Common.{slice_get-push_last, slice_get-push_other, get_or-swap_remove, length-swap_remove, before, not_equal, row_at}
use Rattle.eco_store.proofs.SeatChanges.{Removed, Pushed}

pub is_equal : (j k : ℕ) → j ≡ k → (j == k) ≡ true
is_equal j k e = (Decides-eqb j k).1 e

module _ (xs : List TableRow) (row : ℕ) (there : row < length xs) where
  swap_below : (k : ℕ) → k < length xs - 1 → slice_get (swap_remove xs row no_row) k ≡ slice_get xs (before row (length xs) k)
  swap_below k below =
      slice_get-get_or (swap_remove xs row no_row) k no_row (rw (length-swap_remove xs row no_row) below)
      ∙ ap Some (get_or-swap_remove xs row k no_row no_row there below)
      ∙ sym (slice_get-get_or xs (before row (length xs) k) no_row (within (k == row)))
    where
      within : (b : Bool) → cond b (length xs - 1) k < length xs
      within true = omega arith
      within false = omega arith

  pub swap_at_row : length xs - 1 ≢ row → slice_get (swap_remove xs row no_row) row ≡ slice_get xs (length xs - 1)
  swap_at_row apart =
      swap_below row (omega arith) ∙ ap (λ b. slice_get xs (cond b (length xs - 1) row)) (is_equal row row refl)

  pub swap_at_last : slice_get (swap_remove xs row no_row) (length xs - 1) ≡ None
  swap_at_last = slice_get_past (swap_remove xs row no_row) (length xs - 1) (rw (length-swap_remove xs row no_row) (omega arith))

  pub swap_others : (k : ℕ) → k ≢ row → k ≢ length xs - 1 → slice_get (swap_remove xs row no_row) k ≡ slice_get xs k
  swap_others k not_row not_last =
      elim (cases_lt k (length xs - 1)) [
        | inl below ↦ swap_below k below ∙ ap (λ b. slice_get xs (cond b (length xs - 1) k)) (not_equal k row not_row)
        | inr above ↦
            slice_get_past (swap_remove xs row no_row) k (rw (length-swap_remove xs row no_row) above) ∙ sym (slice_get_past xs k (omega arith))
      ]

-- a row went from a table, and nothing else did
pub rows_removed : (s : List (Option TableState)) (E : ℕ → ℕ → Option TableRow) (f row : ℕ) → row < length (rows_in s f)
    → ((k : ℕ) → E f k ≡ slice_get (swap_remove (rows_in s f) row no_row) k) → ((n k : ℕ) → n ≢ f → E n k ≡ row_at s n k)
    → Removed (row_at s) E f row (length (rows_in s f) - 1)
rows_removed s E f row there here elsewhere = record {
  at_row = λ d. here row ∙ swap_at_row (rows_in s f) row there d;
  at_last = here (length (rows_in s f) - 1) ∙ swap_at_last (rows_in s f) row there;
  others_here = λ k a b. here k ∙ swap_others (rows_in s f) row there k a b;
  others = elsewhere;
}

-- a row came to the end of a table, and nothing else did
pub rows_pushed : (E E' : ℕ → ℕ → Option TableRow) (t end : ℕ) (xs : List TableRow) (r : TableRow) → end ≡ length xs
    → ((k : ℕ) → E t k ≡ slice_get xs k)
    → ((k : ℕ) → E' t k ≡ slice_get (xs ++ r ∷ []) k) → ((n k : ℕ) → n ≢ t → E' n k ≡ E n k) → Pushed E E' t end r
rows_pushed E E' t end xs r end_is before after elsewhere = rw end_is (record {
  free = before (length xs) ∙ slice_get_past xs (length xs) (omega arith);
  at_end = after (length xs) ∙ slice_get-push_last xs r;
  others_here = λ k o. after k ∙ slice_get-push_other xs r k o ∙ sym (before k);
  others = elsewhere;
})

module _ (s s' : List (Option TableState)) (from to : Place) (ids : List Id) (moved : Option Entity) (there : from.row < length (rows_in s from.table))
    (moves : MovesRow (rows_in s) (rows_in s') from to ids moved) where
  abbrev left : List TableRow
  left = swap_remove (rows_in s from.table) from.row no_row

  -- the rows when one was taken out
  abbrev pub between_rows : ℕ → ℕ → Option TableRow
  between_rows n k = cond (n == from.table) (slice_get left k) (row_at s n k)

  between_here : (k : ℕ) → between_rows from.table k ≡ slice_get left k
  between_here k = ap (λ b. cond b (slice_get left k) (row_at s from.table k)) (is_equal from.table from.table refl)

  between_there : (n k : ℕ) → n ≢ from.table → between_rows n k ≡ row_at s n k
  between_there n k other = ap (λ b. cond b (slice_get left k) (row_at s n k)) (not_equal n from.table other)

  pub moves_removes : Removed (row_at s) between_rows from.table from.row (length (rows_in s from.table) - 1)
  moves_removes = rows_removed s between_rows from.table from.row there between_here between_there

  pub moves_pushes : Pushed between_rows (row_at s') to.table to.row (retyped_row ids (row_in s from.table from.row))
  moves_pushes =
      rows_pushed between_rows (row_at s') to.table to.row (rows_in s to.table) (retyped_row ids (row_in s from.table from.row)) moves.end
      (λ k. between_there to.table k (λ e. moves.apart (sym e))) (λ k. ap (λ xs. slice_get xs k) moves.target)
      (λ n k o. elim (cases_eq n from.table) [
        | inl same ↦ ap (λ z. row_at s' z k) same ∙ ap (λ xs. slice_get xs k) moves.source ∙ sym (ap (λ z. between_rows z k) same ∙ between_here k)
        | inr other ↦ ap (λ xs. slice_get xs k) (moves.others n other o) ∙ sym (between_there n k other)
      ])
