-- Reading items from values, one after another.
use Rattle.eco_steps.proofs.Common.{◌≡◌, ℕ, ◌+◌, ◌<◌, zero, suc, List, [], ◌∷◌, ◌++◌, length, map, drop, get_or, slice_get, Option}
use Rattle.eco_steps.proofs.Common.{Some, None, option_map, option_and_then, ◌&&◌, Bool, true, false, refl, ap, sym, ◌∙◌, append_assoc, is_some}
use Rattle.eco_steps.proofs.Common.{IsSome, unwrap_or, AllZip, list_all, drop_more, AllZip-long, items_of, items_list, list_in, each_in}
use Rattle.serde_json.specs.Data.{Data, Items, no_items, item}

-- what was made is made of something
pub mapped : {A B P : Type 0} (f : A → B) (o : Option A) (y : B) → option_map f o ≡ Some y → ((x : A) → o ≡ Some x → y ≡ f x → P) → P
mapped f None y e k = cc
mapped f (Some x) y e k = k x refl cc

pub items_list-items_of : (ds : List Data) → items_list (items_of ds) ≡ ds
items_list-items_of [] = refl
items_list-items_of (d ∷ ds) = ap (λ es. d ∷ es) (items_list-items_of ds)

pub items_of-items_list : (is : Items) → items_of (items_list is) ≡ is
items_of-items_list no_items = refl
items_of-items_list (item d is) = ap (λ js. item d js) (items_of-items_list is)

-- what is found in a first value, and in those behind it
each_more : {A : Type 0} (find : Data → Option A) (d : Data) (ds : List Data) (xs : List A) → each_in find (d ∷ ds) ≡ Some xs
    → (x : A) × (ys : List A) × (find d ≡ Some x) × (each_in find ds ≡ Some ys) × (xs ≡ x ∷ ys)
each_more {A} find d ds xs = both (find d) (each_in find ds) where
  both : (o : Option A) (rest : Option (List A)) → option_and_then (λ x. option_map (λ ys. x ∷ ys) rest) o ≡ Some xs
      → (x : A) × (ys : List A) × (o ≡ Some x) × (rest ≡ Some ys) × (xs ≡ x ∷ ys)
  both (Some x) (Some ys) e = (x, ys, refl, refl, cc)
  both _ _ e = cc

module _ {A : Type 0} (find : Data → Option A) (Is : Data → A → Type 0) where
  -- what is written in each is found
  pub each_found : ((d : Data) (x : A) → Is d x → find d ≡ Some x) → (ds : List Data) (xs : List A) → AllZip Is ds xs → each_in find ds ≡ Some xs
  each_found one [] [] are = refl
  each_found one [] (x ∷ xs) are = absurd are
  each_found one (d ∷ ds) [] are = absurd are
  each_found one (d ∷ ds) (x ∷ xs) (is, are) = rw (one d x is, each_found one ds xs are) refl

  -- what is found in each is written there
  pub each_is : ((d : Data) (x : A) → find d ≡ Some x → Is d x) → (ds : List Data) (xs : List A) → each_in find ds ≡ Some xs → AllZip Is ds xs
  each_is one [] xs e = let q : xs ≡ [] = cc in rw q tt
  each_is one (d ∷ ds) xs e = let (x, ys, is, are, q) = each_more find d ds xs e in rw q (one d x is, each_is one ds ys are)

-- something was read where something is there
pub some_read : {A B : Type 0} (see : B → A) (r : Option B) (o : Option A) → option_map see r ≡ o → is_some r ≡ is_some o
some_read see None o e = ap is_some e
some_read see (Some x) o e = ap is_some e

-- what was found so far, and what is found in the rest, are all
module _ {V A : Type 0} (view : V → Data) (find : Data → Option A) where
  -- the item at hand, and those behind it
  next_of : (vs : List V) (i : ℕ) (d : V) → i < length vs
      → each_in find (map view (drop i vs))
      ≡ option_and_then (λ y. option_map (λ ys. y ∷ ys) (each_in find (map view (drop (i + 1) vs)))) (find (view (get_or vs i d)))
  next_of vs i d there = ap (λ (ws : List V). each_in find (map view ws)) (drop_more vs i d there)

  in_front : (old new : List A) (x : A) (o : Option (List A)) → new ≡ old ++ x ∷ []
      → option_map (λ xs. old ++ xs) (option_map (λ xs. x ∷ xs) o) ≡ option_map (λ xs. new ++ xs) o
  in_front old new x None is = refl
  in_front old new x (Some xs) is = rw is (ap Some (sym (append_assoc old (x ∷ []) xs)))

  -- one more was found
  pub one_more : (vs : List V) (i : ℕ) (d : V) (old new : List A) (x : A) → i < length vs → Some x ≡ find (view (get_or vs i d)) → new ≡ old ++ x ∷ []
      → each_in find (map view vs) ≡ option_map (λ xs. old ++ xs) (each_in find (map view (drop i vs)))
      → each_in find (map view vs) ≡ option_map (λ xs. new ++ xs) (each_in find (map view (drop (i + 1) vs)))
  one_more vs i d old new x there found is was =
      let rest = each_in find (map view (drop (i + 1) vs)) in
      was ∙ ap (option_map (λ xs. old ++ xs)) (next_of vs i d there ∙ ap (option_and_then (λ y. option_map (λ ys. y ∷ ys) rest)) (sym found))
      ∙ in_front old new x rest is

  -- in one nothing was found
  pub none_more : (vs : List V) (i : ℕ) (d : V) (old : List A) → i < length vs → None ≡ find (view (get_or vs i d))
      → each_in find (map view vs) ≡ option_map (λ xs. old ++ xs) (each_in find (map view (drop i vs)))
      → each_in find (map view vs) ≡ None
  none_more vs i d old there missing was =
      let rest = each_in find (map view (drop (i + 1) vs)) in
      was ∙ ap (option_map (λ xs. old ++ xs)) (next_of vs i d there ∙ ap (option_and_then (λ y. option_map (λ ys. y ∷ ys) rest)) (sym missing))

-- what was found in each of some values
module _ {A : Type 0} (find : Data → Option A) where
  found : (o : Option (List A)) → IsSome o → (xs : List A) × (o ≡ Some xs)
  found None some = cc
  found (Some xs) some = (xs, refl)

  -- as many as there are values
  pub kept_length : (ds : List Data) → IsSome (each_in find ds) → length (unwrap_or (each_in find ds) []) ≡ length ds
  kept_length ds some =
      let (xs, e) = found (each_in find ds) some in
      rw e (AllZip-long (λ d x. find d ≡ Some x) ds xs (each_is find (λ d x. find d ≡ Some x) (λ d x is. is) ds xs e))

  each_get : (ds : List Data) (xs : List A) (i : ℕ) → each_in find ds ≡ Some xs → slice_get xs i ≡ option_and_then find (slice_get ds i)
  each_get [] xs i e = let q : xs ≡ [] = cc in rw q refl
  each_get (d ∷ ds) xs zero e = let (x, ys, is, are, q) = each_more find d ds xs e in rw (q, is) refl
  each_get (d ∷ ds) xs (suc i) e = let (x, ys, is, are, q) = each_more find d ds xs e in rw q (each_get ds ys i are)

  -- each in its place, or none
  pub kept_get : (ds : List Data) (i : ℕ) (o : Option Data) → IsSome (each_in find ds) → o ≡ slice_get ds i
      → option_and_then find o ≡ slice_get (unwrap_or (each_in find ds) []) i
  kept_get ds i o some at = let (xs, e) = found (each_in find ds) some in rw (e, at) (sym (each_get ds xs i e))

  each_there : (ds : List Data) (xs : List A) (i : ℕ) (d : Data) → each_in find ds ≡ Some xs → Some d ≡ slice_get ds i → IsSome (find d)
  each_there [] xs i d e at = cc
  each_there (c ∷ ds) xs zero d e at =
      let (x, ys, is, are, q) = each_more find c ds xs e in
      let same : d ≡ c = cc in
      rw (same, is) refl
  each_there (c ∷ ds) xs (suc i) d e at = let (x, ys, is, are, q) = each_more find c ds xs e in each_there ds ys i d are at

  -- something was found in each
  pub kept_each : (ds : List Data) (i : ℕ) (d : Data) → IsSome (each_in find ds) → Some d ≡ slice_get ds i → IsSome (find d)
  kept_each ds i d some at = let (xs, e) = found (each_in find ds) some in each_there ds xs i d e at

  -- the list of some values is that of what was found in them
  pub kept_found : (ds : List Data) (d : Data) → Some ds ≡ list_in d → IsSome (each_in find ds)
      → Some (unwrap_or (each_in find ds) []) ≡ option_and_then (each_in find) (list_in d)
  kept_found ds d is some = let (xs, e) = found (each_in find ds) some in rw (← is, e) refl

  pub some_found : (ds : List Data) (d : Data) → Some ds ≡ list_in d → IsSome (option_and_then (each_in find) (list_in d)) → IsSome (each_in find ds)
  some_found ds d is some = rw (← is) at some

  -- by whether something is found in each of them
  module _ {V : Type 0} (view : V → Data) (vs : List V) (b : Bool) (looked : b ≡ list_all (λ v. is_some (find (view v))) vs) where
    all_found : is_some (each_in find (map view vs)) ≡ b
    all_found = each vs ∙ sym looked where
      both : (o : Option A) (rest : Option (List A))
          → is_some (option_and_then (λ x. option_map (λ ys. x ∷ ys) rest) o) ≡ (is_some o && is_some rest)
      both None rest = refl
      both (Some x) None = refl
      both (Some x) (Some xs) = refl

      each : (vs : List V) → is_some (each_in find (map view vs)) ≡ list_all (λ v. is_some (find (view v))) vs
      each [] = refl
      each (v ∷ vs) = both (find (view v)) (each_in find (map view vs)) ∙ ap (λ b. is_some (find (view v)) && b) (each vs)

    pub all_kept : b ≡ true → IsSome (each_in find (map view vs))
    all_kept is = all_found ∙ is

    -- all of them are kept
    pub read_all : (d : Data) → Some (map view vs) ≡ list_in d → b ≡ true
        → Some (unwrap_or (each_in find (map view vs)) []) ≡ option_and_then (each_in find) (list_in d)
    read_all d is all = kept_found (map view vs) d is (all_kept all)

    -- or none is
    pub read_none : (d : Data) → Some (map view vs) ≡ list_in d → b ≡ false → None ≡ option_and_then (each_in find) (list_in d)
    read_none d is not_all = rw (← is) (none (each_in find (map view vs)) (all_found ∙ not_all)) where
      none : (o : Option (List A)) → is_some o ≡ false → None ≡ o
      none None e = refl
      none (Some xs) e = cc
