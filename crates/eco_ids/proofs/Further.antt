-- Lists that a loop makes, one item further.
use Rattle.eco_ids.proofs.Common.{◌≡◌, ℕ, zero, suc, ◌+◌, ◌<◌, List, [], ◌∷◌, ◌++◌, length, map, take, get_or, Option, Some, flat_map, AllZip, refl, sym, ap}
use Rattle.eco_ids.proofs.Common.{◌∙◌, take_more, map-append, append_assoc, append-nil, arith}
use Rattle.std.proofs.lemmas.Grind.{flat_map-append}

taken_more : {X : Type 0} (xs : List X) (i : ℕ) (d x : X) → i < length xs → x ≡ get_or xs i d → take (i + 1) xs ≡ take i xs ++ x ∷ []
taken_more xs i d x lt is = take_more xs i d lt ∙ ap (λ k. take i xs ++ k ∷ []) (sym is)

module _ {X Y : Type 0} (xs : List X) (i : ℕ) (d x : X) where
  -- what each item becomes is put behind others
  pub map_further : (f : X → Y) (before now next : List Y) (y : Y) → i < length xs → x ≡ get_or xs i d → now ≡ before ++ map f (take i xs)
      → y ≡ f x → next ≡ now ++ y ∷ [] → next ≡ before ++ map f (take (i + 1) xs)
  map_further f before now next y lt is inv made put =
      rw (put, inv, made, taken_more xs i d x lt is, map-append) (append_assoc before (map f (take i xs)) (f x ∷ []))

  -- the same of items that are seen alike
  pub copies_further : (f : X → Y) (now next : List X) (y : X) → i < length xs → x ≡ get_or xs i d → map f now ≡ map f (take i xs) → f y ≡ f x
      → next ≡ now ++ y ∷ [] → map f next ≡ map f (take (i + 1) xs)
  copies_further f now next y lt is inv made put =
      ap (map f) put ∙ map-append f now (y ∷ []) ∙ rw (inv, made) (sym (ap (map f) (taken_more xs i d x lt is) ∙ map-append f (take i xs) (x ∷ [])))

  pub flat_map_further : (f : X → List Y) (now next : List Y) → i < length xs → x ≡ get_or xs i d → now ≡ flat_map f (take i xs)
      → next ≡ now ++ f x → next ≡ flat_map f (take (i + 1) xs)
  flat_map_further f now next lt is inv put =
      rw (put, inv) (sym (ap (flat_map f) (taken_more xs i d x lt is) ∙ flat_map-append f (take i xs) (x ∷ [])
      ∙ ap (λ t. flat_map f (take i xs) ++ t) (append-nil (f x))))

-- one more on each side
pub zip_push : {A B : Type 0} (R : A → B → Type 0) (xs : List A) (ys : List B) (x : A) (y : B) → AllZip R xs ys → R x y
    → AllZip R (xs ++ x ∷ []) (ys ++ y ∷ [])
zip_push R [] [] x y h r = (r, tt)
zip_push R (a ∷ xs) (b ∷ ys) x y h r = (h.0, zip_push R xs ys x y h.1 r)
zip_push R _ _ x y h r = absurd h

abbrev rest : {X : Type 0} → List X → List X
rest [] = []
rest (x ∷ xs) = xs

-- what stands at places at which just these are found
pub found_at : {X : Type 0} (find : ℕ → Option X) (at : ℕ → X) → ((k : ℕ) (x : X) → find k ≡ Some x → at k ≡ x)
    → (ks : List ℕ) (xs : List X) → map find ks ≡ map Some xs → map at ks ≡ xs
found_at find at is [] [] e = refl
found_at find at is [] (x ∷ xs) e = let n : 0 ≡ suc (length (map Some xs)) = ap length e in absurd (omega (arith, n))
found_at find at is (k ∷ ks) [] e = let n : suc (length (map find ks)) ≡ 0 = ap length e in absurd (omega (arith, n))
found_at find at is (k ∷ ks) (x ∷ xs) e = λ i. is k x (ap (λ l. get_or l zero (Some x)) e) i ∷ found_at find at is ks xs (ap rest e) i
