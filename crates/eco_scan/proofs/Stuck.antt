-- A machine that reads a text byte by byte, and the longest beginning of a text of its language.
use Rattle.eco_scan.proofs.Common.{◌≡◌, ℕ, suc, ◌+◌, ◌-◌, ◌<◌, ◌≤◌, List, [], ◌∷◌, ◌++◌, length, get_or, take, drop}
use Rattle.eco_scan.proofs.Common.{slice_index, slice_range, Some, None, Option, option_and_then, sym, refl, ap, ◌∙◌, append_assoc, arith, length-drop}
use Rattle.eco_scan.proofs.Common.{take_more, take-append-drop, runs}
use Rattle.std.proofs.Math.Seq.{drop-cons}
use Rattle.std.proofs.Common.{get_or-drop}

pub runs-append : {S : Type 0} (step : S → ℕ → Option S) (s : S) (xs ys : List ℕ)
    → runs step s (xs ++ ys) ≡ option_and_then (λ q. runs step q ys) (runs step s xs)
runs-append step s [] ys = refl
runs-append step s (x ∷ xs) ys =
    elim (step s x) as (λ o. option_and_then (λ q. runs step q (xs ++ ys)) o
    ≡ option_and_then (λ q. runs step q ys) (option_and_then (λ q. runs step q xs) o)) [
      | None ↦ refl
      | Some q ↦ runs-append step q xs ys
    ]

pub runs-on : {S : Type 0} (step : S → ℕ → Option S) (s q : S) (xs ys : List ℕ) → runs step s xs ≡ Some q
    → runs step s (xs ++ ys) ≡ runs step q ys
runs-on step s q xs ys e = runs-append step s xs ys ∙ ap (λ o. option_and_then (λ q. runs step q ys) o) e

-- one more byte
pub runs-more : {S : Type 0} (step : S → ℕ → Option S) (s q : S) (xs : List ℕ) (b : ℕ) → runs step s xs ≡ Some q
    → runs step s (xs ++ b ∷ []) ≡ option_and_then (λ r. Some r) (step q b)
runs-more step s q xs b e = runs-on step s q xs (b ∷ []) e

pub runs-stuck : {S : Type 0} (step : S → ℕ → Option S) (s q : S) (xs ys : List ℕ) (b : ℕ) → runs step s xs ≡ Some q → step q b ≡ None
    → runs step s (xs ++ b ∷ ys) ≡ None
runs-stuck step s q xs ys b e stuck = runs-on step s q xs (b ∷ ys) e ∙ ap (λ o. option_and_then (λ r. runs step r ys) o) stuck

-- a text at whose n-th byte the machine stops is no beginning of a text that it reads
pub stuck_at : {S : Type 0} (step : S → ℕ → Option S) (s q : S) (text : List ℕ) (n : ℕ) → n < length text
    → runs step s (take n text) ≡ Some q → step q (get_or text n 0) ≡ None → (more : List ℕ) → runs step s (text ++ more) ≡ None
stuck_at step s q text n lt e stuck more =
    let parts : text ≡ take n text ++ get_or text n 0 ∷ drop (suc n) text =
    sym (take-append-drop n text) ∙ ap (λ t. take n text ++ t) (drop-cons text n 0 lt) in
    let whole : text ++ more ≡ take n text ++ get_or text n 0 ∷ (drop (suc n) text ++ more) =
    ap (λ t. t ++ more) parts ∙ append_assoc (take n text) (get_or text n 0 ∷ drop (suc n) text) more in
    ap (λ t. runs step s t) whole ∙ runs-stuck step s q (take n text) (drop (suc n) text ++ more) (get_or text n 0) e stuck

pub slice_range_more : (xs : List ℕ) (a b : ℕ) → a ≤ b → b < length xs → slice_range xs a (b + 1) ≡ slice_range xs a b ++ slice_index xs b ∷ []
slice_range_more xs a b le lt =
    let e : (b + 1) - a ≡ (b - a) + 1 = omega arith in
    let f : a + (b - a) ≡ b = omega arith in
    let g : get_or (drop a xs) (b - a) 0 ≡ get_or xs b 0 = get_or-drop a xs (b - a) 0 ∙ ap (λ k. get_or xs k 0) f in
    ap (λ k. take k (drop a xs)) e ∙ take_more (drop a xs) (b - a) 0 (omega (arith, length-drop a xs)) ∙ ap (λ x. take (b - a) (drop a xs) ++ x ∷ []) g
