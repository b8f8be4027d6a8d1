-- What lists have at their places once they changed.
use Rattle.eco_ids.proofs.Common.{◌≡◌, ℕ, zero, suc, ◌-◌, ◌<◌, Bool, true, false, cond, ◌≢◌, List, [], ◌∷◌, ◌++◌, map, length, get_or, set, replicate, ◌==◌}
use Rattle.eco_ids.proofs.Common.{slice_get, Some, sym, refl, ap, le_of_suc-le-suc, arith, length-set, cases_eq, Decides-eqb, common_steps, length-take-le}
use Rattle.eco_ids.proofs.Common.{get_or-set_other, get_or-set_same, get_or-take, same_Some, slice_get_within}
use Rattle.std.specs.List.{swap_remove}
use Rattle.std.proofs.lemmas.List.{get_or_default}

-- ---- an element written, or one more at the end

-- an element that is within, whatever the default of the read
pub some_at : {X : Type 0} (xs : List X) (i : ℕ) (d : X) → i < length xs → slice_get xs i ≡ Some (get_or xs i d)
some_at [] i d within = absurd (omega arith)
some_at (x ∷ xs) zero d within = refl
some_at (x ∷ xs) (suc i) d within = some_at xs i d (omega arith)

pub slice_get-set_same : {X : Type 0} (xs : List X) (i : ℕ) (v : X) → i < length xs → slice_get (set xs i v) i ≡ Some v
slice_get-set_same [] i v l = absurd (omega arith)
slice_get-set_same (x ∷ xs) zero v l = refl
slice_get-set_same (x ∷ xs) (suc i) v l = slice_get-set_same xs i v (le_of_suc-le-suc l)

pub slice_get-set_there : {X : Type 0} (xs : List X) (i : ℕ) (v old : X) → slice_get xs i ≡ Some old → slice_get (set xs i v) i ≡ Some v
slice_get-set_there xs i v old there = slice_get-set_same xs i v (slice_get_within xs i old there)

pub slice_get-set_other : {X : Type 0} (xs : List X) (i j : ℕ) (v : X) → j ≢ i → slice_get (set xs i v) j ≡ slice_get xs j
slice_get-set_other [] i j v n = refl
slice_get-set_other (x ∷ xs) zero zero v n = absurd (n refl)
slice_get-set_other (x ∷ xs) zero (suc j) v n = refl
slice_get-set_other (x ∷ xs) (suc i) zero v n = refl
slice_get-set_other (x ∷ xs) (suc i) (suc j) v n = slice_get-set_other xs i j v (λ e. n (ap suc e))

pub slice_get-push_last : {X : Type 0} (xs : List X) (v : X) → slice_get (xs ++ v ∷ []) (length xs) ≡ Some v
slice_get-push_last [] v = refl
slice_get-push_last (x ∷ xs) v = slice_get-push_last xs v

pub slice_get-push_other : {X : Type 0} (xs : List X) (v : X) (j : ℕ) → j ≢ length xs → slice_get (xs ++ v ∷ []) j ≡ slice_get xs j
slice_get-push_other [] v zero n = absurd (n refl)
slice_get-push_other [] v (suc j) n = refl
slice_get-push_other (x ∷ xs) v zero n = refl
slice_get-push_other (x ∷ xs) v (suc j) n = slice_get-push_other xs v j (λ e. n (ap suc e))

pub set_own : {X : Type 0} (xs : List X) (i : ℕ) (x : X) → slice_get xs i ≡ Some x → set xs i x ≡ xs
set_own [] i x h = refl
set_own (y ∷ ys) zero x h = ap (λ z. z ∷ ys) (sym (same_Some y x h))
set_own (y ∷ ys) (suc i) x h = ap (λ zs. y ∷ zs) (set_own ys i x h)

-- ---- made of others

pub map-replicate : {X Y : Type 0} (f : X → Y) (n : ℕ) (x : X) → map f (replicate n x) ≡ replicate n (f x)
map-replicate f zero x = refl
map-replicate f (suc n) x = ap (λ ys. f x ∷ ys) (map-replicate f n x)

pub keys_paired : {X Y : Type 0} (f : X → Y) (xs : List X) → map (λ (p : X × Y). p.0) (map (λ x. (x, f x)) xs) ≡ xs
keys_paired f [] = refl
keys_paired f (x ∷ xs) = ap (λ ys. x ∷ ys) (keys_paired f xs)

-- ---- one taken out, whose place the last one takes

-- where an element of a list stood before a removal
abbrev pub before : ℕ → ℕ → ℕ → ℕ
before row len j = cond (j == row) (len - 1) j

pub before_within : (row len j : ℕ) → j < len - 1 → before row len j < len
before_within row len j within = by (j == row)
  where
    by : (b : Bool) → cond b (len - 1) j < len
    by true = omega arith
    by false = omega arith

pub not_equal : (j row : ℕ) → j ≢ row → (j == row) ≡ false
not_equal j row other = by (j == row) refl
  where
    by : (b : Bool) → (j == row) ≡ b → b ≡ false
    by true e = absurd (other ((Decides-eqb j row).0 e))
    by false e = refl

pub get_or-swap_remove : {X : Type 0} (xs : List X) (row j : ℕ) (d e : X) → row < length xs → j < length xs - 1
    → get_or (swap_remove xs row d) j e ≡ get_or xs (before row (length xs) j) e
get_or-swap_remove {X} xs row j d e there within =
    grind (arith, common_steps, get_or-take, cases_eq, get_or-set_same, get_or_default, get_or-set_other, not_equal)

pub length-swap_remove : {X : Type 0} (xs : List X) (row : ℕ) (d : X) → length (swap_remove xs row d) ≡ length xs - 1
length-swap_remove xs row d =
    length-take-le (length xs - 1) (set xs row (get_or xs (length xs - 1) d)) (rw length-set (omega arith))
