-- The numbers of the values in which nothing is found, as a loop gathers them.
use Rattle.eco_checker.proofs.Common.{◌≡◌, ℕ, ◌+◌, ◌<◌, List, [], ◌∷◌, ◌++◌, length, map, take, get_or, Option, Some, None}
use Rattle.eco_checker.proofs.Common.{option_map, refl, ap, sym, ◌∙◌, arith, is_some, length-map, length-take-le, map-append, take_more, Data}
use Rattle.eco_checker.proofs.Common.{numbers_without, unless_found, unless_read}

-- a value is read where something is found in it
found_read : {A B : Type 0} (see : B → A) (n : ℕ) (r : Option B) (o : Option A) → option_map see r ≡ o → unless_found n o [] ≡ unless_read (is_some r) n
found_read see n None o e = rw (← e) refl
found_read see n (Some x) o e = rw (← e) refl

module _ {A : Type 0} (find : Data → Option A) where
  unless_found-append : (n : ℕ) (o : Option A) (xs ys : List ℕ) → unless_found n o (xs ++ ys) ≡ unless_found n o xs ++ ys
  unless_found-append n None xs ys = refl
  unless_found-append n (Some x) xs ys = refl

  numbers_without-append : (n m : ℕ) (ds : List Data) (d : Data) → m ≡ n + length ds
      → numbers_without find n (ds ++ d ∷ []) ≡ numbers_without find n ds ++ unless_found m (find d) []
  numbers_without-append n m [] d e = let same : n ≡ m = omega arith in rw same refl
  numbers_without-append n m (c ∷ ds) d e =
      ap (unless_found n (find c)) (numbers_without-append (n + 1) m ds d (omega arith))
      ∙ unless_found-append n (find c) (numbers_without find (n + 1) ds) (unless_found m (find d) [])

  -- one more value was looked at, and its number added unless it was read
  pub one_more : {B V : Type 0} (view : V → Data) (see : B → A) (vs : List V) (i : ℕ) (v : V) (r : Option B) {old new : List ℕ} → i < length vs
      → v ≡ get_or vs i v → option_map see r ≡ find (view v) → old ≡ numbers_without find 0 (map view (take i vs))
      → new ≡ old ++ unless_read (is_some r) i → new ≡ numbers_without find 0 (map view (take (i + 1) vs))
  one_more view see vs i v r lt is read was now =
      let front : map view (take (i + 1) vs) ≡ map view (take i vs) ++ view v ∷ [] =
      ap (λ ws. map view ws) (take_more vs i v lt) ∙ map-append view (take i vs) (get_or vs i v ∷ [])
      ∙ ap (λ w. map view (take i vs) ++ view w ∷ []) (sym is) in
      let count : i ≡ 0 + length (map view (take i vs)) =
      omega (arith, length-map (take i vs) view, length-take-le i vs (omega arith)) in
      let so_far = numbers_without find 0 (map view (take i vs)) in
      now ∙ ap (λ ns. ns ++ unless_read (is_some r) i) was ∙ ap (λ ns. so_far ++ ns) (sym (found_read see i r (find (view v)) read))
      ∙ sym (rw front (numbers_without-append 0 i (map view (take i vs)) (view v) count))
