-- Lists by what stands at each place.
use Rattle.std.proofs.Common.{◌≡◌, ℕ, zero, suc, ◌+◌, ◌==◌, true, false, true≢false, ◌⊎◌, List, [], ◌∷◌, slice_get, Some, option_map}
use Rattle.std.proofs.Common.{refl, sym, ap, ◌∙◌, inl, inr, arith}
use Rattle.std.proofs.lemmas.Bool.Decides.{Decides-eqb}
use Rattle.std.proofs.lemmas.Grind.{common_steps}
use Rattle.std.proofs.lemmas.Option.{none-some, same_Some}
use Rattle.eco_ids.specs.Indices.{IndexState, map_from}
use Rattle.eco_ids.specs.World.{Record}

-- what is left at an index
pub get_left : (f : ℕ → IndexState Record → IndexState Record) (n : ℕ) (xs : List (IndexState Record)) (k : ℕ) →
    slice_get (map_from f n xs) k ≡ option_map (f (n + k)) (slice_get xs k)
get_left f n [] k = refl
get_left f n (x ∷ xs) zero = ap (λ m. Some (f m x)) (omega arith)
get_left f n (x ∷ xs) (suc k) = grind (arith, common_steps, get_left f (n + 1) xs k)

-- lists with the same at each place
pub same_places : {X : Type 0} (xs ys : List X) → ((k : ℕ) → slice_get xs k ≡ slice_get ys k) → xs ≡ ys
same_places [] [] same = refl
same_places [] (y ∷ ys) same = absurd (none-some y (same 0))
same_places (x ∷ xs) [] same = absurd (none-some x (sym (same 0)))
same_places (x ∷ xs) (y ∷ ys) same = λ t. same_Some x y (same 0) t ∷ same_places xs ys (λ k. same (suc k)) t

-- two numbers are the same, or not
pub same_number : (a b : ℕ) → (a ≡ b) ⊎ (a ≡ b → ⊥)
same_number a b = elim (a == b) as (λ c. (a == b) ≡ c → (a ≡ b) ⊎ (a ≡ b → ⊥)) [
  | true ↦ λ h. inl ((Decides-eqb a b).0 h)
  | false ↦ λ h. inr (λ is. true≢false (sym ((Decides-eqb a b).1 is) ∙ h))
] refl
