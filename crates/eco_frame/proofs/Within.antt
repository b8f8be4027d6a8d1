-- The positions in batches are those of systems.
use Rattle.eco_frame.proofs.Common.{◌≡◌, ℕ, ◌<◌, List, [], ◌∷◌, ◌++◌, None, Some, ap, drop, length, map, slice_get, subst, sym, unwrap_or}
use Rattle.eco_frame.proofs.Common.{arith, slice_get_within, All, AllByRecursion, joined}
use Rattle.std.proofs.lemmas.List.Elements.{All-from_recursion}

-- at each of the positions stands something
all_within : {A : Type 0} (xs : List A) (order : List ℕ) (found : List A) → map (slice_get xs) order ≡ map Some found
    → AllByRecursion (λ k. k < length xs) order
all_within xs [] found h = tt
all_within xs (k ∷ order) [] h = let none = ap length h in absurd (omega (arith, none))
all_within xs (k ∷ order) (x ∷ found) h =
    let first = ap (λ l. unwrap_or (slice_get l 0) None) h in (slice_get_within xs k x first, all_within xs order found (ap (drop 1) h))

all_append : {A : Type 0} (P : A → Type 0) (xs ys : List A) → AllByRecursion P (xs ++ ys) → AllByRecursion P xs × AllByRecursion P ys
all_append P [] ys h = (tt, h)
all_append P (x ∷ xs) ys h = let rest = all_append P xs ys h.1 in ((h.0, rest.0), rest.1)

all_parts : {V : Type 0} (items : V → List ℕ) (n : ℕ) (batches : List V) → AllByRecursion (λ k. k < n) (joined (map items batches))
    → AllByRecursion (λ b. All (λ k. k < n) (items b)) batches
all_parts items n [] h = tt
all_parts items n (b ∷ batches) h =
    let parts = all_append (λ k. k < n) (items b) (joined (map items batches)) h in
    (All-from_recursion (λ k. k < n) (items b) parts.0, all_parts items n batches parts.1)

-- so it is in each batch, where these hold the positions in order
pub batches_within : {A V : Type 0} (items : V → List ℕ) (xs : List A) (found : List A) (order : List ℕ) (batches : List V)
    → joined (map items batches) ≡ order → map (slice_get xs) order ≡ map Some found → (n : ℕ) → length xs ≡ n
    → All (λ b. All (λ k. k < n) (items b)) batches
batches_within items xs found order batches are there n long =
    let all = subst (AllByRecursion (λ k. k < length xs)) (sym are) (all_within xs order found there) in
    All-from_recursion (λ b. All (λ k. k < n) (items b)) batches
    (all_parts items n batches (subst (λ m. AllByRecursion (λ k. k < m) (joined (map items batches))) long all))
