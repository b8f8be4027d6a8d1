-- A seat alone.
use Rattle.eco_workers.proofs.Common.{◌≡◌, ℕ, ◌+◌, List, [], ◌∷◌, sym, ap, ◌∙◌, arith, append-nil, flat_map, times, once, claimed, drawn, Alone, Seat}
use Rattle.eco_workers.proofs.Turned.{in_turn}

of_one : (f : Seat → List ℕ) (seats : List Seat) (s : Seat) → seats ≡ s ∷ [] → f s ≡ flat_map f seats
of_one f seats s e = sym (append-nil (f s)) ∙ ap (flat_map f) (sym e)

pub alone : (base : ℕ) (seats : List Seat) (n m : ℕ)
    → ((x : ℕ) → times x (flat_map claimed seats) ≡ once 0 n x)
    → ((x : ℕ) → times x (flat_map drawn seats) ≡ once base (base + m) x)
    → Alone base seats n m
alone base seats n m c d s e = (
  in_turn n 0 (claimed s) s.claim.ascending (λ x. ap (times x) (of_one claimed seats s e) ∙ c x ∙ ap (λ b. once 0 b x) (omega arith)),
  in_turn m base (drawn s) s.draw.ascending (λ x. ap (times x) (of_one drawn seats s e) ∙ d x),
)
