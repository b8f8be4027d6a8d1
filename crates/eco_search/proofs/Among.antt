-- Nodes among others.
use Rattle.eco_search.proofs.Common.{or_left, or_right, IsEquivalence}
use Rattle.std.proofs.Common.{◌≡◌, ℕ, zero, suc, ◌<◌, length, get_or, arith, Bool, true, false, ◌||◌, ◌⊎◌, inl, inr, List, [], ◌∷◌}
use Rattle.std.proofs.Common.{◌++◌, sym, ◌∙◌, true≢false, IsTrue}
use Rattle.std.proofs.lemmas.List.Folds.{list_any-append}
use Rattle.eco_ids.proofs.Facts.{or_parts}
use Rattle.eco_search.specs.Search.{is_among}

module _ {A : Type 0} (eq : A → A → Bool) where
  pub among_append : (xs ys : List A) (x : A) → is_among eq (xs ++ ys) x ≡ (is_among eq xs x || is_among eq ys x)
  among_append xs ys x = list_any-append _ xs ys

  -- no more is found in a part
  pub among_front : (xs ys : List A) (x : A) → IsTrue (is_among eq xs x) → IsTrue (is_among eq (xs ++ ys) x)
  among_front xs ys x h = among_append xs ys x ∙ or_left _ _ h

  pub among_back : (xs ys : List A) (x : A) → IsTrue (is_among eq ys x) → IsTrue (is_among eq (xs ++ ys) x)
  among_back xs ys x h = among_append xs ys x ∙ or_right _ _ h

  pub among_cases : (xs ys : List A) (x : A) → IsTrue (is_among eq (xs ++ ys) x) → IsTrue (is_among eq xs x) ⊎ IsTrue (is_among eq ys x)
  among_cases xs ys x h = or_parts _ _ (sym (among_append xs ys x) ∙ h)

  -- the only one
  pub only : ((a b : A) → eq a b ≡ true → a ≡ b) → (x y : A) → IsTrue (is_among eq (x ∷ []) y) → y ≡ x
  only same x y h = elim (or_parts (eq y x) false h) as (λ _. y ≡ x) [ inl k ↦ same y x k | inr k ↦ absurd (true≢false (sym k)) ]

  -- what stands at a place is among them
  pub among_get : IsEquivalence eq → (xs : List A) (k : ℕ) (d : A) → k < length xs → IsTrue (is_among eq xs (get_or xs k d))
  among_get o [] k d l = absurd (omega arith)
  among_get o (x ∷ xs) zero d l = or_left _ _ (o.refl x)
  among_get o (x ∷ xs) (suc k) d l = or_right _ _ (among_get o xs k d (omega (arith, l)))
