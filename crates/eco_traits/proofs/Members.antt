-- Tests, and members of lists.
use Rattle.eco_traits.proofs.Common.{common_steps, ◌≡◌, ℕ, zero, suc, ◌<◌, length, get_or, arith, false, ◌||◌, inl, inr, List, []}
use Rattle.eco_traits.proofs.Common.{same_tests, ◌∷◌, ◌++◌, refl, sym, ap, ◌∙◌, subst, is_eq, true≢false, Ordering, IsTrue, list_any}
use Rattle.eco_traits.proofs.Common.{or_left, Entity, entity_cmp, entity_eq, has_item, equal_tie, or_parts, entity_eq_is, entity_eq_itself}
use Rattle.std.specs.FinMap.{IsAntisymmetric}
use Rattle.std.proofs.lemmas.Bool.{or_right}
use Rattle.std.proofs.lemmas.List.Folds.{list_any-append}
use Rattle.std.specs.Cmp.{IsTotalOrder, tied_itself}
use Rattle.eco_ids.specs.contracts.entity.EntityPartialEq.TheImpl as entity_impl

entity_eq_turns : (a b : Entity) → IsTrue (entity_eq a b) → IsTrue (entity_eq b a)
entity_eq_turns a b h = subst (λ x. IsTrue (entity_eq x a)) (entity_eq_is a b h) (entity_eq_itself a)

-- the test that `derive` writes for handles finds a member
pub list_any-derived : (ks : List Entity) (k : Entity) → list_any ((entity_impl.eq-value).it k) ks ≡ has_item entity_cmp ks k
list_any-derived [] k = refl
list_any-derived (y ∷ ys) k = grind (arith, common_steps, same_tests, entity_eq_turns, list_any-derived ys k)

module _ {K : Type 0} (R : K → K → Ordering) where
  pub has_append : (xs ys : List K) (x : K) → has_item R (xs ++ ys) x ≡ (has_item R xs x || has_item R ys x)
  has_append xs ys x = list_any-append _ xs ys

  -- no more is found in a part
  pub has_front : (xs ys : List K) (x : K) → IsTrue (has_item R xs x) → IsTrue (has_item R (xs ++ ys) x)
  has_front xs ys x h = has_append xs ys x ∙ or_left _ _ h

  pub has_back : (xs ys : List K) (x : K) → IsTrue (has_item R ys x) → IsTrue (has_item R (xs ++ ys) x)
  has_back xs ys x h = has_append xs ys x ∙ or_right _ _ h

-- the only member
pub only : {K : Type 0} {R : K → K → Ordering} → IsAntisymmetric R → (x y : K) → IsTrue (has_item R (x ∷ []) y) → x ≡ y
only {R = R} same x y h = elim (or_parts (is_eq (R x y)) false h) as (λ _. x ≡ y) [
  | inl k ↦ same x y (equal_tie _ k)
  | inr k ↦ absurd (true≢false (sym k))
]

-- what stands at a place is a member
pub has_get : {K : Type 0} {R : K → K → Ordering} → IsTotalOrder R → (xs : List K) (k : ℕ) (d : K) → k < length xs
    → IsTrue (has_item R xs (get_or xs k d))
has_get o [] k d l = absurd (omega arith)
has_get o (x ∷ xs) zero d l = or_left _ _ (ap is_eq (tied_itself o x))
has_get o (x ∷ xs) (suc k) d l = or_right _ _ (has_get o xs k d (omega (arith, l)))
