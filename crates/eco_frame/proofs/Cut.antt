-- Rows are cut into pieces one after another, from the first row on.
use Rattle.eco_frame.proofs.Common.{◌≡◌, ℕ, zero, suc, ◌+◌, ◌-◌, ◌<◌, ◌≤◌, min, List, [], ◌∷◌, ◌++◌, flat_map, get_or, map}
use Rattle.eco_frame.proofs.Common.{take, drop, length, refl, sym, ap, ◌∙◌, append_assoc, arith, append-nil, drop-drop, length-drop, map_push, take_min}
use Rattle.eco_frame.proofs.Common.{take_more, cut, pieces_of, ValuedRow, pieces_in}
use Rattle.std.proofs.lemmas.Grind.{flat_map-append}
use Rattle.std.proofs.Math.Seq.{drop-nil}

cut_nil : (n : ℕ) → cut n [] ≡ []
cut_nil zero = refl
cut_nil (suc n) = refl

-- it doesn't matter how many pieces are asked for, where these are enough
cut_enough : (m n : ℕ) (rows : List ValuedRow) → length rows ≤ m → length rows ≤ n → cut m rows ≡ cut n rows
cut_enough m n [] h k = cut_nil m ∙ sym (cut_nil n)
cut_enough zero n (r ∷ rows) h k = absurd (omega (arith, h))
cut_enough (suc m) zero (r ∷ rows) h k = absurd (omega (arith, k))
cut_enough (suc m) (suc n) (r ∷ rows) h k =
    let len = length-drop 64 (r ∷ rows) in
    ap (λ l. take 64 (r ∷ rows) ∷ l) (cut_enough m n (drop 64 (r ∷ rows)) (omega (arith, h, len)) (omega (arith, k, len)))

-- the first piece, and those of the rest
next_piece : (rows : List ValuedRow) → 0 < length rows → pieces_of rows ≡ take 64 rows ∷ pieces_of (drop 64 rows)
next_piece [] h = absurd (omega (arith, h))
next_piece (r ∷ rows) h =
    let len = length-drop 64 (r ∷ rows) in
    ap (λ l. take 64 (r ∷ rows) ∷ l)
    (cut_enough (length rows) (length (drop 64 (r ∷ rows))) (drop 64 (r ∷ rows)) (omega (arith, len)) (omega (arith, len)))

-- so many rows as there are, and n at most, are taken off
drop_min : (n : ℕ) (rows : List ValuedRow) → drop (min n (length rows)) rows ≡ drop n rows
drop_min zero rows = let none : min 0 (length rows) ≡ 0 = omega arith in ap (λ m. drop m rows) none
drop_min (suc n) [] = drop-nil (min (suc n) 0)
drop_min (suc n) (r ∷ rows) =
    let first : min (suc n) (suc (length rows)) ≡ suc (min n (length rows)) = omega arith in
    ap (λ m. drop m (r ∷ rows)) first ∙ drop_min n rows

-- one piece more of a system's rows, from one place to another
pub piece_more : {B : Type 0} (body : B) (rows : List ValuedRow) (first end : ℕ) (old pieces : List (B × List ValuedRow))
    → first < length rows → end ≡ first + min 64 (length rows - first) → pieces ++ pieces_in (body, drop first rows) ≡ old ++ pieces_in (body, rows)
    → (pieces ++ (body, take (end - first) (drop first rows)) ∷ []) ++ pieces_in (body, drop end rows) ≡ old ++ pieces_in (body, rows)
piece_more body rows first end old pieces h e inv =
    let rest = drop first rows in
    let len = length-drop first rows in
    let count : end - first ≡ min 64 (length rest) = omega (arith, e, len) in
    let now : take (end - first) rest ≡ take 64 rest = ap (λ m. take m rest) count ∙ take_min 64 rest in
    let sum : first + min 64 (length rest) ≡ end = omega (arith, e, len) in
    let later : drop end rows ≡ drop 64 rest = ap (λ m. drop m rows) (sym sum) ∙ sym (drop-drop (min 64 (length rest)) first rows) ∙ drop_min 64 rest in
    let some : 0 < length rest = omega (arith, h, len) in
    append_assoc pieces ((body, take (end - first) rest) ∷ []) (pieces_in (body, drop end rows))
    ∙ ap (λ l. pieces ++ l)
    (ap (λ l. (body, l) ∷ pieces_in (body, drop end rows)) now
    ∙ ap (λ l. (body, take 64 rest) ∷ pieces_in (body, l)) later
    ∙ ap (map (λ r. (body, r))) (sym (next_piece rest some)))
    ∙ inv

-- what one more part gives is behind
pub flat_more : {A Y X : Type 0} (f : Y → List X) (g : A → Y) (xs : List A) (k : ℕ) (x : A) (seen seen' : List X) → k < length xs
    → x ≡ get_or xs k x → seen ≡ flat_map f (map g (take k xs)) → seen' ≡ seen ++ f (g x) → seen' ≡ flat_map f (map g (take (k + 1) xs))
flat_more f g xs k x seen seen' here is so_far more =
    more
    ∙ ap (λ l. l ++ f (g x)) so_far
    ∙ ap (λ l. flat_map f (map g (take k xs)) ++ l) (sym (append-nil (f (g x))))
    ∙ sym (flat_map-append f (map g (take k xs)) (g x ∷ []))
    ∙ ap (flat_map f) (sym (map_push g (take k xs) x) ∙ ap (map g) (ap (λ y. take k xs ++ y ∷ []) is ∙ sym (take_more xs k x here)))
