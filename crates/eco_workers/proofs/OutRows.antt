-- Handles that run out: one is left, and there is one piece. It is short of one where it takes two, and not where it takes one.
use Rattle.eco_workers.proofs.Common.{◌≡◌, ◌<◌, ◌≤◌, ℕ, zero, suc, List, [], ◌∷◌, ◌++◌, Some, refl, sym, subst, arith, get_or, length, nat_tests, same_Some}
use Rattle.eco_workers.proofs.Common.{concat, slice_get, AllZip, Command, IsOut, once, slice_get_within, times}

abbrev nothing : ℕ → List ℕ → List Command
nothing n draws = []

-- a piece is the number of handles that it takes
abbrev as_many : ℕ → List ℕ → ℕ
as_many n draws = n

one_left : (x : ℕ) → times x (0 ∷ []) ≡ once 0 1 x
one_left x = grind (arith, nat_tests)

row_out : IsOut nothing as_many (2 ∷ []) 0 1
row_out = record {
  draws = (0 ∷ []) ∷ [];
  shares = (omega arith, tt);
  each = one_left;
  short = (0, 2, refl, omega arith);
}

-- who has the one handle that is left is not short of one
has_it : (d : List ℕ) → times 0 (d ++ []) ≡ 1 → length d < 1 → ⊥
has_it [] one less = absurd (omega (arith, one))
has_it (x ∷ d) one less = absurd (omega (arith, less))

at_place : (d : List ℕ) (k piece : ℕ) → times 0 (d ++ []) ≡ 1 → slice_get (1 ∷ []) k ≡ Some piece → length (get_or (d ∷ []) k []) < piece → ⊥
at_place d zero piece one at less = has_it d one (subst (λ (n : ℕ). length d < n) (sym (same_Some 1 piece at)) less)
at_place d (suc k) piece one at less = (let within = slice_get_within (1 ∷ []) (suc k) piece at in absurd (omega (arith, within)))

of_draws : (draws : List (List ℕ)) → AllZip (λ (n : ℕ) (d : List ℕ). length d ≤ n) (1 ∷ []) draws → times 0 (concat draws) ≡ 1
    → ((k : ℕ) × (n : ℕ) × (slice_get (1 ∷ []) k ≡ Some n) × (length (get_or draws k []) < n)) → ⊥
of_draws [] shares one short = shares
of_draws (d ∷ []) shares one short = at_place d short.0 short.1 one short.2 short.3
of_draws (d ∷ e ∷ ds) shares one short = shares.1

row_enough : IsOut nothing as_many (1 ∷ []) 0 1 → ⊥
row_enough o = of_draws o.draws o.shares (o.each 0) o.short
