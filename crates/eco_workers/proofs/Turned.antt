-- Numbers that ascend: how many there are below a bound, and that they are all of them in turn where each stands once.
use Rattle.eco_workers.proofs.Common.{◌≡◌, ℕ, zero, suc, ◌+◌, ◌<◌, ◌≤◌, true, eqb, cond, List, [], ◌∷◌, length, refl, sym, ap}
use Rattle.eco_workers.proofs.Common.{◌∙◌, arith, nat_tests, All, range_with_len, All-head, All-tail, times, once, all_above, ascends}

head_above : (z : ℕ) (zs : List ℕ) → ascends (z ∷ zs) ≡ true → all_above z zs ≡ true
head_above z zs up = grind (arith, nat_tests)

tail_up : (z : ℕ) (zs : List ℕ) → ascends (z ∷ zs) ≡ true → ascends zs ≡ true
tail_up z zs up = grind (arith, nat_tests)

first_above : (y z : ℕ) (zs : List ℕ) → all_above y (z ∷ zs) ≡ true → y < z
first_above y z zs above = grind (arith, nat_tests)

rest_above : (y z : ℕ) (zs : List ℕ) → all_above y (z ∷ zs) ≡ true → all_above y zs ≡ true
rest_above y z zs above = grind (arith, nat_tests)

short_above : (xs : List ℕ) (y n : ℕ) → all_above y xs ≡ true → ascends xs ≡ true → y < n → All (λ (x : ℕ). x < n) xs → length xs + y < n
short_above [] y n above up lt all = omega arith
short_above (z ∷ zs) y n above up lt all =
    let P : ℕ → Type 0 = λ x. x < n in
    let r = short_above zs z n (head_above z zs up) (tail_up z zs up) (All-head P z zs all) (All-tail P z zs all) in
    let s = first_above y z zs above in
    omega arith

pub short : (xs : List ℕ) (n : ℕ) → ascends xs ≡ true → All (λ (x : ℕ). x < n) xs → length xs ≤ n
short [] n up all = omega arith
short (y ∷ ys) n up all =
    let P : ℕ → Type 0 = λ x. x < n in
    let r = short_above ys y n (head_above y ys up) (tail_up y ys up) (All-head P y ys all) (All-tail P y ys all) in
    omega arith

not_here : (y x z : ℕ) (zs : List ℕ) (n : ℕ) → x ≤ y → all_above y (z ∷ zs) ≡ true → n ≡ 0 → cond (eqb z x) 1 0 + n ≡ 0
not_here y x z zs n le above none = grind (arith, nat_tests)

absent : (y x : ℕ) (xs : List ℕ) → x ≤ y → all_above y xs ≡ true → times x xs ≡ 0
absent y x [] le above = refl
absent y x (z ∷ zs) le above = not_here y x z zs (times x zs) le above (absent y x zs le (rest_above y z zs above))

-- the first of the numbers from a on, each once
is_first : (a y n t : ℕ) → (cond (eqb y y) 1 0 + t ≡ once a (a + n) y) → a ≤ y
is_first a y n t h = grind (arith, nat_tests)

none_past : (a y t : ℕ) → (cond (eqb y y) 1 0 + t ≡ once a (a + 0) y) → ⊥
none_past a y t h = grind (arith, nat_tests)

some_first : (a n : ℕ) → 0 ≡ once a (a + suc n) a → ⊥
some_first a n h = grind (arith, nat_tests)

is_least : (a y n : ℕ) → (cond (eqb y a) 1 0 + 0 ≡ once a (a + suc n) a) → y ≡ a
is_least a y n h = grind (arith, nat_tests)

others : (a n x t : ℕ) → (cond (eqb a x) 1 0 + t ≡ once a (a + suc n) x) → (x ≡ a → t ≡ 0) → t ≡ once (a + 1) (a + 1 + n) x
others a n x t h first = grind (arith, nat_tests)

pub in_turn : (n a : ℕ) (xs : List ℕ) → ascends xs ≡ true → ((x : ℕ) → times x xs ≡ once a (a + n) x) → xs ≡ range_with_len a n
in_turn zero a [] up h = refl
in_turn zero a (y ∷ ys) up h = absurd (none_past a y (times y ys) (h y))
in_turn (suc n) a [] up h = absurd (some_first a n (h a))
in_turn (suc n) a (y ∷ ys) up h =
    let le : a ≤ y = is_first a y (suc n) (times y ys) (h y) in
    let above = head_above y ys up in
    let gone : times a ys ≡ 0 = absent y a ys le above in
    let same : y ≡ a = is_least a y n (ap (λ t. cond (eqb y a) 1 0 + t) (sym gone) ∙ h a) in
    let rest : ys ≡ range_with_len (a + 1) n = in_turn n (a + 1) ys (tail_up y ys up)
    (λ x.
    let e : cond (eqb a x) 1 0 + times x ys ≡ once a (a + suc n) x = ap (λ z. cond (eqb z x) 1 0 + times x ys) (sym same) ∙ h x in
    others a n x (times x ys) e (λ is. absent y x ys (omega arith) above)) in
    ap (λ z. z ∷ ys) same ∙ ap (λ l. a ∷ l) rest
