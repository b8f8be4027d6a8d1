-- Cells among others, and the buckets that they pick.
use Rattle.eco_entities.proofs.Common.{◌≡◌, ◌≢◌, ℕ, zero, suc, ◌==◌, Bool, true, false, cond, List, []}
use Rattle.eco_entities.proofs.Common.{◌∷◌, ◌++◌, inl, inr, remove, slice_get, refl, sym, ap, ◌∙◌, Some}
use Rattle.eco_entities.proofs.Common.{same_Some, Cell, IsIn, cells_for}
use Rattle.eco_entities.proofs.Common.{bucket_of, eq-eqb, subst}

-- ---- cells among others

pub in_more : (c : Cell) (xs ys : List Cell) → IsIn c xs → IsIn c (xs ++ ys)
in_more c [] ys h = absurd h
in_more c (x ∷ xs) ys (inl same) = inl same
in_more c (x ∷ xs) ys (inr rest) = inr (in_more c xs ys rest)

pub in_last : (c : Cell) (xs : List Cell) → IsIn c (xs ++ c ∷ [])
in_last c [] = inl refl
in_last c (x ∷ xs) = inr (in_last c xs)

-- without the cell at a place the others are left
pub in_left : (c d : Cell) (xs : List Cell) (i : ℕ) → slice_get xs i ≡ Some c → d ≢ c → IsIn d xs → IsIn d (remove xs i)
in_left c d [] i there apart h = absurd h
in_left c d (x ∷ xs) zero there apart (inl same) = absurd (apart (sym same ∙ same_Some x c there))
in_left c d (x ∷ xs) zero there apart (inr rest) = rest
in_left c d (x ∷ xs) (suc i) there apart (inl same) = inl same
in_left c d (x ∷ xs) (suc i) there apart (inr rest) = inr (in_left c d xs i there apart rest)

-- the cells that pick a bucket
pub in_part : (c : Cell) (place count : ℕ) (xs : List Cell) → bucket_of c.tag count ≡ place → IsIn c xs → IsIn c (cells_for place count xs)
in_part c place count [] picks h = absurd h
in_part c place count (x ∷ xs) picks (inl same) =
    subst (λ b. IsIn c (cond b (x ∷ cells_for place count xs) (cells_for place count xs)))
    (sym (eq-eqb (bucket_of x.tag count) place (ap (λ (d : Cell). bucket_of d.tag count) same ∙ picks))) (inl same)
in_part c place count (x ∷ xs) picks (inr rest) = by (bucket_of x.tag count == place) (in_part c place count xs picks rest)
  where
    by : (b : Bool) → IsIn c (cells_for place count xs) → IsIn c (cond b (x ∷ cells_for place count xs) (cells_for place count xs))
    by true h = inr h
    by false h = h
