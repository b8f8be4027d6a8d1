-- One more field of a sum.
use Rattle.eco_bodies.proofs.Common.{◌≡◌, ℕ, zero, suc, ◌+◌, ◌<◌, ℤ, List, [], ◌∷◌, ◌++◌, length, take, drop, get_or, slice_set}
use Rattle.eco_bodies.proofs.Common.{refl, sym, ap, ◌∙◌, arith, add-one}
use Rattle.std.specs.Prelude.{◌-◌, pos, replicate, map, option_map, slice_get, Some}
use Rattle.std.proofs.lemmas.Option.{slice_get-map}
use Rattle.eco_ids.specs.declared.value.Value.{Value}
use Rattle.eco_ids.specs.World.{padded}
use Rattle.eco_ids.specs.declared.value.TheConstants.{FIELD_COUNT}
use Rattle.eco_bodies.specs.Sums.{bounded_sum, field_sums, sum_of, sum_of_both}

-- the first k fields are summed
abbrev pub summed : ℕ → List ℤ → List ℤ → List ℤ
summed k xs ys = field_sums (take k xs) (take k ys) ++ drop k xs

set_more : (xs ys : List ℤ) (k : ℕ) (d e : ℤ) → k < length xs → k < length ys
    → slice_set (summed k xs ys) k (bounded_sum (get_or xs k d) (get_or ys k e)) ≡ summed (suc k) xs ys
set_more [] ys k d e h i = absurd (omega arith)
set_more (x ∷ xs) [] k d e h i = absurd (omega arith)
set_more (x ∷ xs) (y ∷ ys) zero d e h i = refl
set_more (x ∷ xs) (y ∷ ys) (suc k) d e h i = ap (λ l. bounded_sum x y ∷ l) (set_more xs ys k d e (omega arith) (omega arith))

pub summed_more : (xs ys fields : List ℤ) (k : ℕ) (d e z : ℤ) → k < length xs → k < length ys → fields ≡ summed k xs ys
    → z ≡ bounded_sum (get_or xs k d) (get_or ys k e) → slice_set fields k z ≡ summed (k + 1) xs ys
summed_more xs ys fields k d e z h i is sum =
    ap (slice_set fields k) sum
    ∙ ap (λ l. slice_set l k (bounded_sum (get_or xs k d) (get_or ys k e))) is
    ∙ set_more xs ys k d e h i
    ∙ ap (λ n. summed n xs ys) (sym (add-one k))

-- ---- zeros behind as many fields

sums_behind : (xs ys us vs : List ℤ) → length xs ≡ length ys → field_sums (xs ++ us) (ys ++ vs) ≡ field_sums xs ys ++ field_sums us vs
sums_behind [] [] us vs long = refl
sums_behind [] (y ∷ ys) us vs long = absurd (omega (arith, long))
sums_behind (x ∷ xs) [] us vs long = absurd (omega (arith, long))
sums_behind (x ∷ xs) (y ∷ ys) us vs long = ap (λ l. bounded_sum x y ∷ l) (sums_behind xs ys us vs (omega (arith, long)))

sums_zero : (n : ℕ) → field_sums (replicate n (pos 0)) (replicate n (pos 0)) ≡ replicate n (pos 0)
sums_zero zero = refl
sums_zero (suc n) = ap (λ l. pos 0 ∷ l) (sums_zero n)

length-sums : (xs ys : List ℤ) → length xs ≡ length ys → length (field_sums xs ys) ≡ length xs
length-sums [] ys long = refl
length-sums (x ∷ xs) [] long = absurd (omega (arith, long))
length-sums (x ∷ xs) (y ∷ ys) long = ap suc (length-sums xs ys (omega (arith, long)))

-- the sum of values of as many fields has these sums and zeros
pub padded_sums : (xs ys : List ℤ) → length xs ≡ length ys → sum_of (padded xs) (padded ys) ≡ padded (field_sums xs ys)
padded_sums xs ys long =
    let zeros : ℕ → List ℤ = λ n. replicate (FIELD_COUNT - n) (pos 0) in
    let same : field_sums (xs ++ zeros (length xs)) (ys ++ zeros (length ys)) ≡ field_sums xs ys ++ zeros (length (field_sums xs ys)) =
    ap (λ n. field_sums (xs ++ zeros (length xs)) (ys ++ zeros n)) (sym long)
    ∙ sums_behind xs ys (zeros (length xs)) (zeros (length xs)) long
    ∙ ap (λ l. field_sums xs ys ++ l) (sums_zero (FIELD_COUNT - length xs) ∙ ap zeros (sym (length-sums xs ys long))) in
    λ i. record { 0 = same i }

-- where two columns have a row of as many fields, they have the sum of both
pub both_in_row : (one other : List (List ℤ)) (row : ℕ) (a b sums : List ℤ) (v : Value) → slice_get one row ≡ Some a → slice_get other row ≡ Some b
    → length a ≡ length b → sums ≡ field_sums a b → v ≡ padded sums
    → Some v ≡ sum_of_both (slice_get (map padded one) row) (slice_get (map padded other) row)
both_in_row one other row a b sums v at also long is made =
    ap Some (made ∙ ap padded is ∙ sym (padded_sums a b long))
    ∙ sym (λ i. sum_of_both ((slice_get-map padded one row ∙ ap (option_map padded) at) i) ((slice_get-map padded other row ∙ ap (option_map padded) also) i))
