-- std's `starts_with` on bytes.
use Rattle.eco_scan.proofs.Common.{◌≡◌, ℕ, List, [], ◌∷◌, ◌==◌, refl, arith, common_steps, is_prefix}
use Rattle.std.specs.List.{starts_with}

pub starts_prefix : (w k : List ℕ) → starts_with (λ x y. x == y) w k ≡ is_prefix k w
starts_prefix [] [] = refl
starts_prefix (y ∷ w) [] = refl
starts_prefix [] (x ∷ k) = refl
starts_prefix (y ∷ w) (x ∷ k) = grind (arith, common_steps, starts_prefix w k)
