-- What is kept of values, under the whole values.
use Rattle.eco_tables.proofs.Common.{◌≡◌, ℕ, ℤ, ◌-◌, ◌+◌, ◌++◌, ◌≤◌, ◌<◌, Bool, true, if◌then◌else◌, List, length, get_or}
use Rattle.eco_tables.proofs.Common.{set, take, map, sym, ap, ◌∙◌, arith, pos, replicate, swap_remove, map-set, get_or-map, length-map, take-map, take_at}
use Rattle.eco_tables.proofs.Common.{take_all, map-append, length-replicate, replicate-append-replicate, Value, padded, zeros, Fits}
use Rattle.eco_tables.proofs.Common.{[], ◌∷◌, ◌&&◌, list_all, refl, suc, zero}
use Rattle.std.specs.Ordering.{int_eq}
use Rattle.eco_ids.specs.declared.value.TheConstants.{FIELD_COUNT}
use Rattle.eco_ids.proofs.Lists.{map-replicate}

-- a row is taken out under a map
pub map_swap_remove : {X Y : Type 0} (f : X → Y) (xs : List X) (i : ℕ) (d : X) (e : Y) → i < length (map f xs)
    → map f (swap_remove xs i d) ≡ swap_remove (map f xs) i e
map_swap_remove f xs i d e within =
    let inside : i < length xs = omega (arith, within, length-map xs f) in
    sym (take-map f (length xs - 1) (set xs i (get_or xs (length xs - 1) d)))
    ∙ ap (take (length xs - 1)) (map-set f xs i (get_or xs (length xs - 1) d))
    ∙ ap (λ y. take (length xs - 1) (set (map f xs) i y)) (sym (get_or-map f xs (length xs - 1) d e (omega arith)))
    ∙ ap (λ n. take (n - 1) (set (map f xs) i (get_or (map f xs) (n - 1) e))) (sym (length-map xs f))

-- a value that fits is written
pub map_put : (w : ℕ) (xs : List (List ℤ)) (i : ℕ) (v : Value) → Fits w v
    → map padded (set xs i (take w v.0)) ≡ set (map padded xs) i v
map_put w xs i v fits = map-set padded xs i (take w v.0) ∙ ap (set (map padded xs) i) (sym fits)

-- a value that was made of so many fields fits them
pub fits_padded : (n : ℕ) (fs : List ℤ) → length fs ≡ n → Fits n (padded fs)
fits_padded n fs is = ap padded (sym (take_at fs (replicate (FIELD_COUNT - length fs) (pos 0)) n is))

-- zeros behind some fields change nothing of whether all are zeros
pub zeros_behind : (n : ℕ) (fs : List ℤ) → list_all (λ x. int_eq x (pos 0)) (fs ++ replicate n (pos 0)) ≡ list_all (λ x. int_eq x (pos 0)) fs
zeros_behind zero [] = refl
zeros_behind (suc n) [] = zeros_behind n []
zeros_behind n (f ∷ fs) = ap (λ b. int_eq f (pos 0) && b) (zeros_behind n fs)

-- zeros in some fields are zeros in all
pub zeros_padded : (w : ℕ) → w ≤ FIELD_COUNT → padded (replicate w (pos 0)) ≡ zeros
zeros_padded w few =
    let behind : FIELD_COUNT - length (replicate w (pos 0)) ≡ FIELD_COUNT - w = ap (λ n. FIELD_COUNT - n) (length-replicate w (pos 0)) in
    let all : w + (FIELD_COUNT - w) ≡ FIELD_COUNT = omega arith in
    let fields : replicate w (pos 0) ++ replicate (FIELD_COUNT - length (replicate w (pos 0))) (pos 0) ≡ replicate FIELD_COUNT (pos 0) =
    ap (λ n. replicate w (pos 0) ++ replicate n (pos 0)) behind ∙ replicate-append-replicate w (FIELD_COUNT - w) (pos 0)
    ∙ ap (λ n. replicate n (pos 0)) all in
    λ t. record { 0 = fields t }

-- zeros behind what is kept are zeros behind the values
pub zeros_joined : (width n m count : ℕ) (xs ys : List (List ℤ)) (whole : Bool) → width ≤ FIELD_COUNT → whole ≡ true → m ≡ length xs
    → n ≡ m + count
    → ys ≡ (if whole then take n xs ++ replicate (n - m) (replicate width (pos 0)) else xs)
    → map padded ys ≡ map padded xs ++ replicate count zeros
zeros_joined width n m count xs ys whole few ok is_m is_n e =
    let took : take n xs ≡ xs = take_all n xs (omega (arith, is_m, is_n)) in
    let many : n - m ≡ count = omega (arith, is_n) in
    let all : ys ≡ xs ++ replicate count (replicate width (pos 0)) =
    e ∙ (λ t. if ok t then took t ++ replicate (many t) (replicate width (pos 0)) else xs) in
    ap (map padded) all ∙ map-append padded xs (replicate count (replicate width (pos 0)))
    ∙ ap (λ zs. map padded xs ++ zs) (map-replicate padded count (replicate width (pos 0)) ∙ ap (replicate count) (zeros_padded width few))
