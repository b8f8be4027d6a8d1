-- A sorted list in which nothing comes twice ascends, and its members are those of the list that was sorted.
use Rattle.eco_archetypes.proofs.PlacesCommon.{◌≡◌, ◌≢◌, ℕ, zero, suc, ◌<◌, Bool, true, false, true≢false, ◌||◌, IsTrue, ◌↔◌, is_lt, is_eq}
use Rattle.eco_archetypes.proofs.PlacesCommon.{List, [], ◌∷◌, ◌++◌, length, get_or, refl, sym, ap, ◌∙◌, subst, arith, suc-add, Ordering, Less, Equal}
use Rattle.eco_archetypes.proofs.PlacesCommon.{Greater, inl, inr, Result, Ok, Err, IfOk, IsTotalOrder, IsAntisymmetric, All, AllPairs, Contains, list_all, IsPermutation}
use Rattle.eco_archetypes.proofs.PlacesCommon.{IsSorted, eq_by_cmp, ordering_reverse, All-append, Contains-permutation, IsPermutation-sym, sorted_far, AscendingAreSets}
use Rattle.eco_archetypes.proofs.PlacesCommon.{has_item, is_ascending, both, equal_tie, or_parts, or_right, tied_itself}
use Rattle.std.specs.Bool.{Decides}
use Rattle.std.proofs.lemmas.List.Kept.{AllPairs-cons}
use Rattle.std.proofs.lemmas.List.MinMax.{ranks_by}
use Rattle.std.proofs.lemmas.Map.Keys.{IsDistinct-IsPermutation}
use Rattle.std.proofs.lemmas.Map.Made.{AllPairs-from_IsDistinct, IsDistinct-from_AllPairs}

-- nothing comes twice
abbrev pub Apart : {K : Type 0} → List K → Type 0
Apart xs = AllPairs (λ x y. x ≢ y) xs

-- lists that are apart, and share nothing, are apart together
pub apart_append : {K : Type 0} (xs ys : List K) → Apart xs → Apart ys → ((x y : K) → Contains xs x → Contains ys y → x ≢ y) → Apart (xs ++ ys)
apart_append [] ys one two cross = two
apart_append {K} (x ∷ xs) ys one two cross =
    AllPairs-cons (λ a b. a ≢ b) x (xs ++ ys)
    (All-append (λ b. x ≢ b) xs ys (λ k d within. one 0 (suc k) d (omega arith) (omega arith))
    (λ k d within. cross x (get_or ys k d) (0, omega arith, refl) (k, within, same ys k d (get_or ys k d) within)))
    (apart_append xs ys (λ i j d below within. one (suc i) (suc j) d (omega arith) (omega arith)) two
    (λ a b p q. cross a b (suc p.0, omega (arith, p.1), p.2) q))
  where
    same : (zs : List K) (k : ℕ) (d e : K) → k < length zs → get_or zs k e ≡ get_or zs k d
    same [] k d e within = absurd (omega arith)
    same (z ∷ zs) zero d e within = refl
    same (z ∷ zs) (suc k) d e within = same zs k d e (omega arith)

all_pass : {K : Type 0} (t : K → Bool) (xs : List K) → All (λ y. t y ≡ true) xs → IsTrue (list_all t xs)
all_pass t [] all = refl
all_pass t (x ∷ xs) all = both _ _ (all 0 x (omega arith)) (all_pass t xs (λ k d within. all (suc k) d (omega arith)))

module _ {K : Type 0} {R : K → K → Ordering} (o : IsTotalOrder R) (same : IsAntisymmetric R) where
  apart_below : (x y : K) → is_lt (R y x) ≡ false → x ≢ y → is_lt (R x y) ≡ true
  apart_below x y h other =
      elim (R x y) as (λ r. R x y ≡ r → is_lt r ≡ true) [
        | Less ↦ λ e. refl
        | Equal ↦ λ e. absurd (other (same x y e))
        | Greater ↦ λ e. absurd (true≢false (sym (ap is_lt (o.antisymm y x ∙ ap ordering_reverse e)) ∙ h))
      ] refl

  pub ascending_sorted : (xs : List K) → IsSorted R xs → Apart xs → IsTrue (is_ascending R xs)
  ascending_sorted [] up apart = refl
  ascending_sorted (x ∷ xs) up apart =
      both _ _
      (all_pass (λ y. is_lt (R x y)) xs
      (λ k d within.
      apart_below x (get_or xs k d)
      (sorted_far (λ a b. is_lt (R a b)) (ranks_by o (λ z. z)) (x ∷ xs) up 0 (suc k) d (omega arith) (omega arith))
      (apart 0 (suc k) d (omega arith) (omega arith))))
      (ascending_sorted xs (λ k d low within. rw suc-add at (up (suc k) d (omega arith) (omega arith)))
      (λ i j d below within. apart (suc i) (suc j) d (omega arith) (omega arith)))

  eq_decides : (x y : K) → Decides (eq_by_cmp R x y) (x ≡ y)
  eq_decides x y = (λ h. same x y (equal_tie _ h), λ e. subst (λ z. eq_by_cmp R x z ≡ true) e (ap is_eq (tied_itself o x)))

  eq_flips : (x y : K) → eq_by_cmp R x y ≡ eq_by_cmp R y x
  eq_flips x y = ap is_eq (o.antisymm x y)
      ∙ elim (R y x) as (λ r. is_eq (ordering_reverse r) ≡ is_eq r) [ Less ↦ refl | Equal ↦ refl | Greater ↦ refl ]

  pub apart_permuted : (xs ys : List K) → IsPermutation xs ys → Apart xs → Apart ys
  apart_permuted xs ys moved apart =
      AllPairs-from_IsDistinct eq_decides ys (IsDistinct-IsPermutation (eq_by_cmp R) eq_flips xs ys moved (IsDistinct-from_AllPairs eq_decides xs apart))

  pub contains_item : (xs : List K) (x : K) → IsTrue (has_item R xs x) → Contains xs x
  contains_item [] x h = absurd (true≢false (sym h))
  contains_item (y ∷ ys) x h = elim (or_parts (eq_by_cmp R y x) (has_item R ys x) h) as (λ _. Contains (y ∷ ys) x) [
    | inl k ↦ (0, omega arith, same y x (equal_tie _ k))
    | inr k ↦ let p = contains_item ys x k in (suc p.0, omega (arith, p.1), p.2)
  ]

  pub item_contained : (xs : List K) (x : K) → Contains xs x → IsTrue (has_item R xs x)
  item_contained xs x p = by xs p.0 p.1 p.2
    where
      by : (xs : List K) (k : ℕ) → k < length xs → get_or xs k x ≡ x → IsTrue (has_item R xs x)
      by [] k within at = absurd (omega arith)
      by (y ∷ ys) zero within at = ap (λ b. b || has_item R ys x) ((eq_decides y x).1 at)
      by (y ∷ ys) (suc k) within at = or_right (eq_by_cmp R y x) _ (by ys k (omega arith) at)

  -- what was sorted, with nothing twice, is the ascending list with the same members
  pub sorted_is : AscendingAreSets R → (xs sorted ys : List K) → IsPermutation xs sorted → IsSorted R sorted → Apart xs
      → IsTrue (is_ascending R ys) → ((x : K) → Contains xs x ↔ IsTrue (has_item R ys x)) → sorted ≡ ys
  sorted_is sets xs sorted ys moved up apart ascends members =
      sets sorted ys (ascending_sorted sorted up (apart_permuted xs sorted moved apart)) ascends (λ x. (
        λ h. (members x).0 (Contains-permutation sorted xs x (IsPermutation-sym xs sorted moved) (contains_item sorted x h)),
        λ h. item_contained sorted x (Contains-permutation xs sorted x moved ((members x).1 h)),
      ))

-- what two clauses say of an answer that came
pub both_ok : {T E : Type 0} (P Q S : T → Type 0) → ((x : T) → P x → Q x → S x) → (r : Result T E) → IfOk r P → IfOk r Q → IfOk r S
both_ok P Q S make (Ok x) p q = make x p q
both_ok P Q S make (Err e) p q = tt
