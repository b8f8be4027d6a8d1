-- Lists that are searched, mapped and joined.
use Rattle.eco_query.proofs.Common.{◌≡◌, ℕ, Bool, true, false, ◌&&◌, ◌||◌, List, [], ◌∷◌, ◌++◌, map, is_some, if◌then◌else◌}
use Rattle.eco_query.proofs.Common.{Some, flat_map, refl, ap, list_all, list_any, find, joined_by}

pub is_some_find : {X : Type 0} (p : X → Bool) (xs : List X) → is_some (find p xs) ≡ list_any p xs
is_some_find p [] = refl
is_some_find p (x ∷ xs) = elim (p x) as (λ c. is_some (if c then Some x else find p xs) ≡ (c || list_any p xs)) [ true ↦ refl | false ↦ is_some_find p xs ]

pub list_all_map : {X Y : Type 0} (f : X → Y) (p : Y → Bool) (xs : List X) → list_all p (map f xs) ≡ list_all (λ x. p (f x)) xs
list_all_map f p [] = refl
list_all_map f p (x ∷ xs) = ap (λ c. p (f x) && c) (list_all_map f p xs)

pub flat_map_map : {X Y Z : Type 0} (f : X → Y) (g : Y → List Z) (xs : List X) → flat_map g (map f xs) ≡ flat_map (λ x. g (f x)) xs
flat_map_map f g [] = refl
flat_map_map f g (x ∷ xs) = ap (λ zs. g (f x) ++ zs) (flat_map_map f g xs)

pub joined_by_map : {X Y : Type 0} (between : List ℕ) (f : X → Y) (text : Y → List ℕ) (xs : List X)
    → joined_by between text (map f xs) ≡ joined_by between (λ x. text (f x)) xs
joined_by_map between f text [] = refl
joined_by_map between f text (x ∷ xs) = ap (λ zs. text (f x) ++ zs) (flat_map_map f (λ y. between ++ text y) xs)
