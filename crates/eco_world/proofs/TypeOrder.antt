-- What the first difference of two types decides.
use Rattle.eco_world.proofs.Common.{◌≡◌, ℕ, ◌+◌, ◌<◌, suc, zero, Bool, nat_lt, List, [], ◌∷◌, length, get_or, min, Some, None, refl, ap}
use Rattle.eco_world.proofs.Common.{◌∙◌, arith, is_lt, Ordering, le_of_suc-le-suc, slice_cmp, nat_cmp, ordering_then, Rest, begun, ended, decided}
use Rattle.std.proofs.Math.ListN.{drop}

settles : (o rest : Ordering) (b : Bool) → Some b ≡ decided o → b ≡ is_lt (ordering_then o rest)
settles o rest b h = grind arith

ties : (o rest : Ordering) → None ≡ decided o → rest ≡ ordering_then o rest
ties o rest h = grind arith

is_lt_nat : (a b : ℕ) → nat_lt a b ≡ is_lt (nat_cmp a b)
is_lt_nat a b = grind arith

module _ {X : Type 0} where
  same_read : (xs : List X) (n : ℕ) (d e : X) → n < length xs → get_or xs n d ≡ get_or xs n e
  same_read [] n d e within = absurd (omega (arith, within))
  same_read (x ∷ xs) zero d e within = refl
  same_read (x ∷ xs) (suc n) d e within = same_read xs n d e (le_of_suc-le-suc within)

  module _ (R : X → X → Ordering) (xs ys : List X) (n : ℕ) where
    split : (d e : X) → n < min (length xs) (length ys) → Rest (slice_cmp R) xs ys n
        → ordering_then (R (get_or xs n d) (get_or ys n e)) (slice_cmp R (drop (n + 1) xs) (drop (n + 1) ys)) ≡ slice_cmp R xs ys
    split d e within rest =
        let x = get_or xs n d in
        let y = get_or ys n e in
        begun xs ys n x y (omega arith) (omega arith) (same_read xs n d x (omega arith)) (same_read ys n e y (omega arith)) (slice_cmp R) ∙ rest

    pub found : (d e : X) (b : Bool) → n < min (length xs) (length ys) → Rest (slice_cmp R) xs ys n
        → Some b ≡ decided (R (get_or xs n d) (get_or ys n e))
        → b ≡ is_lt (slice_cmp R xs ys)
    found d e b within rest h = settles _ (slice_cmp R (drop (n + 1) xs) (drop (n + 1) ys)) b h ∙ ap is_lt (split d e within rest)

    pub passed : (d e : X) → n < min (length xs) (length ys) → Rest (slice_cmp R) xs ys n → None ≡ decided (R (get_or xs n d) (get_or ys n e))
        → Rest (slice_cmp R) xs ys (n + 1)
    passed d e within rest h = ties _ (slice_cmp R (drop (n + 1) xs) (drop (n + 1) ys)) h ∙ split d e within rest

    pub over : n ≡ min (length xs) (length ys) → Rest (slice_cmp R) xs ys n → nat_lt (length xs) (length ys) ≡ is_lt (slice_cmp R xs ys)
    over all rest = is_lt_nat (length xs) (length ys) ∙ ap is_lt (ended xs ys n (nat_cmp (length xs) (length ys)) all refl R ∙ rest)
