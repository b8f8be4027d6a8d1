-- Members of lists.
use Rattle.eco_frame.proofs.BatchesCommon.{◌≡◌, Bool, ◌⊎◌, inl, inr, List, [], ◌∷◌, ◌++◌, map, flat_map, refl, sym, ap, subst, IsTrue}
use Rattle.eco_frame.proofs.BatchesCommon.{true≢false, list_any, or_left, or_parts, or_right, SomeOf, some_left, some_right}
use Rattle.eco_frame.proofs.BatchesCommon.{ℕ, zero, suc, ◌<◌, arith, length, get_or, AllByRecursion}

abbrev pub Member : {A : Type 0} → A → List A → Type 0
Member x xs = SomeOf (λ y. y ≡ x) xs

module _ {A : Type 0} where
  pub in_parts : (x : A) (xs ys : List A) → Member x (xs ++ ys) → Member x xs ⊎ Member x ys
  in_parts x [] ys h = inr h
  in_parts x (z ∷ xs) ys (inl e) = inl (inl e)
  in_parts x (z ∷ xs) ys (inr h) = more (in_parts x xs ys h)
    where
      more : Member x xs ⊎ Member x ys → Member x (z ∷ xs) ⊎ Member x ys
      more (inl m) = inl (inr m)
      more (inr m) = inr m

  -- a member that passes a test
  pub passing : (test : A → Bool) (xs : List A) → IsTrue (list_any test xs) → (x : A) × Member x xs × IsTrue (test x)
  passing test [] h = absurd (true≢false (sym h))
  passing test (x ∷ xs) h = by (passing test xs) (or_parts (test x) (list_any test xs) h)
    where
      by : (IsTrue (list_any test xs) → (y : A) × Member y xs × IsTrue (test y)) → IsTrue (test x) ⊎ IsTrue (list_any test xs)
          → (y : A) × Member y (x ∷ xs) × IsTrue (test y)
      by rest (inl t) = (x, inl refl, t)
      by rest (inr t) = let more = rest t in (more.0, inr more.1, more.2)

  pub passes : (test : A → Bool) (xs : List A) {x : A} → Member x xs → IsTrue (test x) → IsTrue (list_any test xs)
  passes test [] h t = absurd h
  passes test (y ∷ ys) (inl e) t = or_left (test y) (list_any test ys) (subst (λ z. IsTrue (test z)) (sym e) t)
  passes test (y ∷ ys) (inr h) t = or_right (test y) (list_any test ys) (passes test ys h t)

-- what holds of all holds of each
pub all_at : {A : Type 0} (P : A → Type 0) (xs : List A) (k : ℕ) (d : A) → k < length xs → AllByRecursion P xs → P (get_or xs k d)
all_at P [] k d l all = absurd (omega arith)
all_at P (x ∷ xs) zero d l all = all.0
all_at P (x ∷ xs) (suc k) d l all = all_at P xs k d (omega arith) all.1

module _ {A B : Type 0} where
  pub in_map : (f : A → B) (x : A) (xs : List A) → Member x xs → Member (f x) (map f xs)
  in_map f x [] h = absurd h
  in_map f x (y ∷ ys) (inl e) = inl (ap f e)
  in_map f x (y ∷ ys) (inr h) = inr (in_map f x ys h)

  pub from_map : (f : A → B) {y : B} (xs : List A) → Member y (map f xs) → (x : A) × Member x xs × (f x ≡ y)
  from_map f [] h = absurd h
  from_map f (x ∷ xs) (inl e) = (x, inl refl, e)
  from_map f (x ∷ xs) (inr h) = let more = from_map f xs h in (more.0, inr more.1, more.2)

  pub in_flat : (f : A → List B) (x : A) (y : B) (xs : List A) → Member x xs → Member y (f x) → Member y (flat_map f xs)
  in_flat f x y [] h m = absurd h
  in_flat f x y (z ∷ zs) (inl e) m = some_left _ (f z) (flat_map f zs) (subst (λ a. Member y (f a)) (sym e) m)
  in_flat f x y (z ∷ zs) (inr h) m = some_right _ (f z) (flat_map f zs) (in_flat f x y zs h m)

  pub from_flat : (f : A → List B) (y : B) (xs : List A) → Member y (flat_map f xs) → (x : A) × Member x xs × Member y (f x)
  from_flat f y [] h = absurd h
  from_flat f y (z ∷ zs) h = by (from_flat f y zs) (in_parts y (f z) (flat_map f zs) h)
    where
      by : (Member y (flat_map f zs) → (x : A) × Member x zs × Member y (f x)) → Member y (f z) ⊎ Member y (flat_map f zs)
          → (x : A) × Member x (z ∷ zs) × Member y (f x)
      by rest (inl m) = (z, inl refl, m)
      by rest (inr m) = let more = rest m in (more.0, inr more.1, more.2)
