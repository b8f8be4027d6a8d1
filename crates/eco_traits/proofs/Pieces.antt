-- Loops over a list that append a piece for each of its items.
use Rattle.eco_traits.proofs.CleanupCommon.{◌≡◌, ℕ, ◌+◌, ◌<◌, length, get_or, List, [], ◌++◌, flat_map, take, sym, ap, ◌∙◌, flat_map_more}
use Rattle.eco_traits.proofs.CleanupCommon.{take_more}

-- the piece of one more item
pub one_piece : {X A : Type 0} (f : X → List A) (xs : List X) (n : ℕ) (d : X) (before after : List A) → n < length xs
    → before ≡ flat_map f (take n xs) → after ≡ before ++ f (get_or xs n d) → after ≡ flat_map f (take (n + 1) xs)
one_piece f xs n d before after there so_far more =
    more ∙ ap (λ bs. bs ++ f (get_or xs n d)) so_far ∙ flat_map_more f [] (take n xs) (get_or xs n d) ∙ ap (flat_map f) (sym (take_more xs n d there))
