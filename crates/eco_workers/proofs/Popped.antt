-- The last of a list is taken, or one comes last.
use Rattle.eco_workers.proofs.Common.{◌≡◌, ◌+◌, Bool, List, [], ◌∷◌, ◌++◌, Some, ap, ◌∙◌, cond, All, All-pop, append-nil, count_by, flat_map, flat_map-append}
use Rattle.std.proofs.lemmas.List.Sums.{sum_by_push}

module _ {X : Type 0} where
  pub popped_all : (P : X → Type 0) (xs ys : List X) (y : X) → xs ≡ ys ++ y ∷ [] → All P xs → All P ys × P y
  popped_all P xs ys y e h = All-pop P xs ys (Some y) e h

  -- how many pass
  pub popped_count : (p : X → Bool) (xs ys : List X) (y : X) → xs ≡ ys ++ y ∷ [] → count_by p xs ≡ count_by p ys + cond (p y) 1 0
  popped_count p xs ys y e = ap (count_by p) e ∙ sum_by_push (λ x. cond (p x) 1 0) ys y

  -- what all have
  pub popped_list : {Y : Type 0} (f : X → List Y) (xs ys : List X) (y : X) → xs ≡ ys ++ y ∷ [] → flat_map f xs ≡ flat_map f ys ++ f y
  popped_list f xs ys y e = ap (flat_map f) e ∙ flat_map-append f ys (y ∷ []) ∙ ap (λ l. flat_map f ys ++ l) (append-nil (f y))
