-- Sums over lists of seats, and lists of numbers that were given.
use Rattle.eco_tickets.proofs.Common.{◌≡◌, ℕ, zero, suc, ◌+◌, ◌<◌, ◌≤◌, min, cond, true, eqb, List, [], ◌∷◌, ◌++◌, set, refl}
use Rattle.eco_tickets.proofs.Common.{sym, ap, arith, nat_tests, some, some-ne-none, some-injective, get_elem?, total, once, all_below, all_above, ascends}

module _ {X : Type 0} (f : X → ℕ) where
  pub total_set : (xs : List X) (i : ℕ) (v w : X) → get_elem? xs i ≡ some v → total f (set xs i w) + f v ≡ total f xs + f w
  total_set [] i v w e = absurd (some-ne-none v (sym e))
  total_set (x ∷ xs) zero v w e = let s : f x ≡ f v = ap f (some-injective x v e) in omega arith
  total_set (x ∷ xs) (suc i) v w e = let h = total_set xs i v w e in omega arith

  pub total-append : (xs ys : List X) → total f (xs ++ ys) ≡ total f xs + total f ys
  total-append [] ys = omega arith
  total-append (x ∷ xs) ys = let h = total-append xs ys in omega arith

  -- where each term of f is at most that of g
  pub total_le : (g : X → ℕ) (xs : List X) → ((i : ℕ) (v : X) → get_elem? xs i ≡ some v → f v ≤ g v) → total f xs ≤ total g xs
  total_le g [] h = omega arith
  total_le g (x ∷ xs) h = let a = h 0 x refl in let b = total_le g xs (λ i v e. h (suc i) v e) in omega arith

  pub total_zero : (xs : List X) → ((i : ℕ) (v : X) → get_elem? xs i ≡ some v → f v ≡ 0) → total f xs ≡ 0
  total_zero [] h = refl
  total_zero (x ∷ xs) h = let a = h 0 x refl in let b = total_zero xs (λ i v e. h (suc i) v e) in omega arith

  -- where one member has all of the sum of g, and f is 0 where g is, that member has all of the sum of f
  pub all_in_one : (g : X → ℕ) (xs : List X) (i : ℕ) (v : X) → get_elem? xs i ≡ some v → ((j : ℕ) (u : X) → get_elem? xs j ≡ some u → g u ≡ 0 → f u ≡ 0)
      → total g xs ≡ g v → total f xs ≡ f v
  all_in_one g [] i v e h s = absurd (some-ne-none v (sym e))
  all_in_one g (x ∷ xs) zero v e h s =
      let p : f x ≡ f v = ap f (some-injective x v e) in
      let q : g x ≡ g v = ap g (some-injective x v e) in
      let z : total g xs ≡ 0 = omega arith in
      let r : total f xs ≡ 0 = total_zero xs (λ j u at. h (suc j) u at (zero_part g xs j u at z)) in
      omega arith
    where
      zero_part : (g : X → ℕ) (xs : List X) (j : ℕ) (u : X) → get_elem? xs j ≡ some u → total g xs ≡ 0 → g u ≡ 0
      zero_part g [] j u e z = absurd (some-ne-none u (sym e))
      zero_part g (x ∷ xs) zero u e z = let s : g x ≡ g u = ap g (some-injective x u e) in omega arith
      zero_part g (x ∷ xs) (suc j) u e z = zero_part g xs j u e (omega arith)
  all_in_one g (x ∷ xs) (suc i) v e h s =
      let b : g v ≤ total g xs = part_of g xs i v e in
      let gx : g x ≡ 0 = omega arith in
      let fx : f x ≡ 0 = h 0 x refl gx in
      let r = all_in_one g xs i v e (λ j u at z. h (suc j) u at z) (omega arith) in
      omega arith
    where
      part_of : (g : X → ℕ) (xs : List X) (i : ℕ) (v : X) → get_elem? xs i ≡ some v → g v ≤ total g xs
      part_of g [] i v e = absurd (some-ne-none v (sym e))
      part_of g (x ∷ xs) zero v e = let s : g x ≡ g v = ap g (some-injective x v e) in omega arith
      part_of g (x ∷ xs) (suc i) v e = let h = part_of g xs i v e in omega arith

pub once_more : (a b w x : ℕ) → a ≤ w → w < b → once a (min (w + 1) b) x ≡ once a (min w b) x + cond (eqb w x) 1 0
once_more a b w x le lt = grind (arith, nat_tests)

pub all_below_more : (n m : ℕ) (xs : List ℕ) → n ≤ m → all_below n xs ≡ true → all_below m xs ≡ true
all_below_more n m [] le h = refl
all_below_more n m (x ∷ xs) le h = let r = all_below_more n m xs le in grind (arith, nat_tests)

pub all_below_push : (n m : ℕ) (xs : List ℕ) → n < m → all_below n xs ≡ true → all_below m (xs ++ n ∷ []) ≡ true
all_below_push n m [] lt h = grind (arith, nat_tests)
all_below_push n m (x ∷ xs) lt h = let r = all_below_push n m xs lt in grind (arith, nat_tests)

pub all_below-append : (n : ℕ) (xs ys : List ℕ) → all_below n xs ≡ true → all_below n ys ≡ true → all_below n (xs ++ ys) ≡ true
all_below-append n [] ys h k = k
all_below-append n (x ∷ xs) ys h k = let r = all_below-append n xs ys in grind (arith, nat_tests)

above_push : (x n : ℕ) (xs : List ℕ) → x < n → all_above x xs ≡ true → all_above x (xs ++ n ∷ []) ≡ true
above_push x n [] lt h = grind (arith, nat_tests)
above_push x n (y ∷ xs) lt h = let r = above_push x n xs lt in grind (arith, nat_tests)

pub ascends_push : (n : ℕ) (xs : List ℕ) → ascends xs ≡ true → all_below n xs ≡ true → ascends (xs ++ n ∷ []) ≡ true
ascends_push n [] h b = refl
ascends_push n (x ∷ xs) h b = let r = ascends_push n xs in let s = above_push x n xs in grind (arith, nat_tests)
