-- The tests of bytes, names and digits.
use Rattle.eco_scan.proofs.Common.{◌≡◌, ℕ, ◌+◌, ◌-◌, ◌*◌, ◌^◌, ◌<◌, ◌≤◌, Bool, true, false, not, List, [], ◌∷◌}
use Rattle.eco_scan.proofs.Common.{◌++◌, length, IfSome, if◌then◌else◌, decimal, Option, refl, ap, ◌∙◌, arith, le-leb, leb-true, list_all}
use Rattle.eco_scan.proofs.Common.{nat_tests, common_steps, is_eq-slice_cmp, may_follow, is_name, is_text, may_begin, decimal_digit, decimal_step, and_from}
use Rattle.eco_scan.proofs.Common.{and_parts, not-true, is_white, is_digit, is_lone}

-- ---- tests

pub if_some_cond : {X : Type 0} (c : Bool) (x y : Option X) (P : X → Type 0) → (c ≡ true → IfSome x P) → (c ≡ false → IfSome y P)
    → IfSome (if c then x else y) P
if_some_cond true x y P f g = f refl
if_some_cond false x y P f g = g refl

pub white_not_word : (b : ℕ) → is_white b ≡ true → may_follow b ≡ false
white_not_word b e = grind (arith, nat_tests)

pub digit_is : (b : ℕ) → is_digit b ≡ true → (48 ≤ b) × (b ≤ 57)
digit_is b e = (leb-true 48 b (and_parts _ _ e).0, leb-true b 57 (and_parts _ _ e).1)

pub is_digit_of : (n : ℕ) → n < 10 → is_digit (48 + n) ≡ true
is_digit_of n lt = and_from _ _ (le-leb 48 (48 + n) (omega arith)) (le-leb (48 + n) 57 (omega arith))

pub one_digit : (b : ℕ) → is_digit b ≡ true → b ∷ [] ≡ decimal (b - 48)
one_digit b d = grind (arith, common_steps, digit_is, decimal_digit)

pub more_digits : (n b : ℕ) → 0 < n → is_digit b ≡ true → 10 * n + (b - 48) < 2 ^ 64 → decimal n ++ b ∷ [] ≡ decimal (10 * n + (b - 48))
more_digits n b pos d small = grind (arith, common_steps, digit_is, decimal_step)

-- ---- names

-- `_` is told by one test as by the other
lone_is_text : (n : List ℕ) → is_text n (95 ∷ []) ≡ is_lone n
lone_is_text n = is_eq-slice_cmp n (95 ∷ [])

-- what a name is
pub name_parts : (b : ℕ) (bs : List ℕ) → is_name (b ∷ bs) ≡ true
    → (may_begin b ≡ true) × (list_all may_follow bs ≡ true) × (length bs < 63) × (is_lone (b ∷ bs) ≡ false)
name_parts b bs e = grind (arith, common_steps, and_parts, leb-true, lone_is_text, not-true)

pub name_of_parts : (b : ℕ) (bs : List ℕ) → may_begin b ≡ true → list_all may_follow bs ≡ true → length bs < 63 → is_lone (b ∷ bs) ≡ false
    → is_name (b ∷ bs) ≡ true
name_of_parts b bs letter words small lone =
    and_from _ _ letter (and_from _ _ words (and_from _ _ (le-leb (length bs) 62 (omega arith)) (ap not (lone_is_text (b ∷ bs) ∙ lone))))
