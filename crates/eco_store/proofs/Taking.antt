-- A table of one row that takes its next type, as a step of that row.
use Rattle.eco_store.proofs.Common.{◌≡◌, ℕ, List, [], ◌∷◌, map, length, get_or, set, refl, arith, zero, suc, ◌<◌, Option, unwrap_or, ap}
use Rattle.eco_store.proofs.Common.{◌∙◌, true≢false, Some, None, is_some, IsTrue, sym, subst, length-map, TableRow, TableState, retyped_row, no_table}
use Rattle.eco_store.proofs.Common.{no_row, slot_of, table_in, rowless, rowless_type, Id, Place, rows_in, RetypesRow, TakesType, RowlessIn, is_rowless}
use Rattle.eco_store.proofs.Common.{SameSlots, list_any, nat_eq}
use Rattle.eco_store.proofs.Views.{at_each}

pub retypes_one : (xs : List TableRow) (row : ℕ) (f : TableRow → TableRow) (d : TableRow) → length xs ≡ 1 → row < length xs
    → map f xs ≡ set xs row (f (get_or xs row d))
retypes_one [] row f d alone within = absurd (omega (arith, within))
retypes_one (x ∷ []) zero f d alone within = refl
retypes_one (x ∷ []) (suc row) f d alone within = absurd (omega (arith, within))
retypes_one (x ∷ y ∷ xs) row f d alone within = absurd (omega (arith, alone))

pub takes_row : (s s' : List (Option TableState)) (p : Place) (ids : List Id) → TakesType s s' p.table ids → length (rows_in s p.table) ≡ 1
    → p.row < length (rows_in s p.table) → RetypesRow (rows_in s) (rows_in s') p ids
takes_row s s' p ids takes alone within = record {
  changed = takes.rows ∙ retypes_one (rows_in s p.table) p.row (retyped_row ids) no_row alone within;
  others = λ m other. ap (λ o. (unwrap_or o no_table).rows) (takes.others m other);
}

-- and no table is without rows that was not
pub takes_rowless : (s s' : List (Option TableState)) (n : ℕ) (ids : List Id) → TakesType s s' n ids → length (table_in s n).rows ≡ 1
    → (slots : List ℕ) → RowlessIn s slots → RowlessIn s' slots
takes_rowless s s' n ids takes alone slots none =
    at_each n (λ k. IsTrue (is_rowless s' k) → IsTrue (list_any (nat_eq k) slots))
    (λ h. absurd (has_row (slot_of s' n) (ap length takes.rows ∙ length-map (table_in s n).rows (retyped_row ids) ∙ alone) h))
    (λ k other h. none k (subst (λ o. IsTrue (is_some (rowless_type o))) (takes.others k other) h))
  where
    of_rows : (t : TableState) (rows : List TableRow) → length rows ≡ 1 → IsTrue (is_some (rowless t rows)) → ⊥
    of_rows t [] long h = absurd (omega (arith, long))
    of_rows t (r ∷ rest) long h = true≢false (sym h)

    has_row : (o : Option TableState) → length (unwrap_or o no_table).rows ≡ 1 → IsTrue (is_some (rowless_type o)) → ⊥
    has_row None long h = true≢false (sym h)
    has_row (Some t) long h = of_rows t t.rows long h

pub rowless_slots : (s s' : List (Option TableState)) (xs : List ℕ) → SameSlots s s' → RowlessIn s xs → RowlessIn s' xs
rowless_slots s s' xs same none k h = none k (subst (λ o. IsTrue (is_some (rowless_type o))) (same k) h)
