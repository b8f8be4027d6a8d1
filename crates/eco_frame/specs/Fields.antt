-- Values by their fields, and that they are those of their fields.
use Rattle.std.proofs.Common.{◌≡◌, ◌==◌, ◌≤◌, ℕ, zero, suc, ℤ, pos, Bool, true, false, ◌&&◌, List, [], ◌∷◌, IsTrue, drop, get_or, length, nat_lt}
use Rattle.std.proofs.Common.{if◌then◌else◌, refl, sym, ◌∙◌, arith, eqb-true}
use Rattle.std.proofs.lemmas.Bool.{ltb-false}
use Rattle.std.proofs.lemmas.Map.Lookups.{exact_signed}
use Rattle.std.specs.List.{list_all}
use Rattle.std.specs.Ordering.{int_eq}
use Rattle.eco_ids.specs.declared.value.Value.{Value}
use Rattle.eco_ids.specs.declared.value.TheConstants.{FIELD_COUNT}
use Rattle.eco_ids.specs.Data.{is_zero_past}
use Rattle.eco_ids.specs.World.{padded}
use Rattle.eco_ids.proofs.Ascending.{first, second}
use Rattle.eco_ids.proofs.Facts.{equal_tie}

-- a value of so many fields: those past them are 0
abbrev pub is_of : ℕ → Value → Bool
is_of n v = (length v.0 == FIELD_COUNT) && is_zero_past n v

-- its field at a place, counted from 0
abbrev pub field : Value → ℕ → ℤ
field v n = get_or v.0 n (pos 0)

-- the values of one to eight fields
abbrev pub one : ℤ → Value
one a = padded (a ∷ [])

abbrev pub two : ℤ → ℤ → Value
two a b = padded (a ∷ b ∷ [])

abbrev pub three : ℤ → ℤ → ℤ → Value
three a b c = padded (a ∷ b ∷ c ∷ [])

abbrev pub four : ℤ → ℤ → ℤ → ℤ → Value
four a b c d = padded (a ∷ b ∷ c ∷ d ∷ [])

abbrev pub five : ℤ → ℤ → ℤ → ℤ → ℤ → Value
five a b c d e = padded (a ∷ b ∷ c ∷ d ∷ e ∷ [])

abbrev pub six : ℤ → ℤ → ℤ → ℤ → ℤ → ℤ → Value
six a b c d e f = padded (a ∷ b ∷ c ∷ d ∷ e ∷ f ∷ [])

abbrev pub seven : ℤ → ℤ → ℤ → ℤ → ℤ → ℤ → ℤ → Value
seven a b c d e f g = padded (a ∷ b ∷ c ∷ d ∷ e ∷ f ∷ g ∷ [])

abbrev pub eight : ℤ → ℤ → ℤ → ℤ → ℤ → ℤ → ℤ → ℤ → Value
eight a b c d e f g h = padded (a ∷ b ∷ c ∷ d ∷ e ∷ f ∷ g ∷ h ∷ [])

-- ---- each value of so many fields is the value of these

zero_at : (xs : List ℤ) (n k : ℕ) → IsTrue (list_all (λ x. int_eq x (pos 0)) (drop n xs)) → n ≤ k → get_or xs k (pos 0) ≡ pos 0
zero_at [] n k all h = refl
zero_at (x ∷ xs) zero zero all h = exact_signed x (pos 0) (equal_tie _ (first _ _ all))
zero_at (x ∷ xs) zero (suc k) all h = zero_at xs zero k (from_start (second _ _ all)) (omega arith)
  where
    from_start : IsTrue (list_all (λ y. int_eq y (pos 0)) xs) → IsTrue (list_all (λ y. int_eq y (pos 0)) (drop zero xs))
    from_start all = all
zero_at (x ∷ xs) (suc n) zero all h = absurd (omega (arith, h))
zero_at (x ∷ xs) (suc n) (suc k) all h = zero_at xs n k all (omega (arith, h))

items : (xs : List ℤ) → length xs ≡ 8
    → get_or xs 0 (pos 0) ∷ get_or xs 1 (pos 0) ∷ get_or xs 2 (pos 0) ∷ get_or xs 3 (pos 0) ∷ get_or xs 4 (pos 0) ∷ get_or xs 5 (pos 0)
    ∷ get_or xs 6 (pos 0) ∷ get_or xs 7 (pos 0) ∷ [] ≡ xs
items [] h = absurd (omega (arith, h))
items (a ∷ []) h = absurd (omega (arith, h))
items (a ∷ b ∷ []) h = absurd (omega (arith, h))
items (a ∷ b ∷ c ∷ []) h = absurd (omega (arith, h))
items (a ∷ b ∷ c ∷ d ∷ []) h = absurd (omega (arith, h))
items (a ∷ b ∷ c ∷ d ∷ e ∷ []) h = absurd (omega (arith, h))
items (a ∷ b ∷ c ∷ d ∷ e ∷ f ∷ []) h = absurd (omega (arith, h))
items (a ∷ b ∷ c ∷ d ∷ e ∷ f ∷ g ∷ []) h = absurd (omega (arith, h))
items (a ∷ b ∷ c ∷ d ∷ e ∷ f ∷ g ∷ i ∷ []) h = refl
items (a ∷ b ∷ c ∷ d ∷ e ∷ f ∷ g ∷ i ∷ j ∷ xs) h = absurd (omega (arith, h))

-- all eight fields are there
all_eight : (v : Value) → length v.0 ≡ 8
    → eight (field v 0) (field v 1) (field v 2) (field v 3) (field v 4) (field v 5) (field v 6) (field v 7) ≡ v
all_eight v long = λ t. record { 0 = items v.0 long t }

-- the field at a place, where it is one of so many; else 0
abbrev kept : ℕ → Value → ℕ → ℤ
kept n v k = if nat_lt k n then field v k else pos 0

-- a field past those that are used is 0
kept_is : (n : ℕ) (v : Value) → IsTrue (is_of n v) → (k : ℕ) → kept n v k ≡ field v k
kept_is n v h k = by (nat_lt k n) refl
  where
    by : (b : Bool) → nat_lt k n ≡ b → (if b then field v k else pos 0) ≡ field v k
    by true below = refl
    by false past = sym (zero_at v.0 n k (second (length v.0 == FIELD_COUNT) _ h) (ltb-false k n past))

all_kept : (n : ℕ) (v : Value) → IsTrue (is_of n v)
    → eight (kept n v 0) (kept n v 1) (kept n v 2) (kept n v 3) (kept n v 4) (kept n v 5) (kept n v 6) (kept n v 7) ≡ v
all_kept n v h =
    (λ t. eight (kept_is n v h 0 t) (kept_is n v h 1 t) (kept_is n v h 2 t) (kept_is n v h 3 t)
    (kept_is n v h 4 t) (kept_is n v h 5 t) (kept_is n v h 6 t) (kept_is n v h 7 t))
    ∙ all_eight v (eqb-true (length v.0) 8 (first _ _ h))

pub one_is : (v : Value) → IsTrue (is_of 1 v) → one (field v 0) ≡ v
one_is = all_kept 1

pub two_is : (v : Value) → IsTrue (is_of 2 v) → two (field v 0) (field v 1) ≡ v
two_is = all_kept 2

pub three_is : (v : Value) → IsTrue (is_of 3 v) → three (field v 0) (field v 1) (field v 2) ≡ v
three_is = all_kept 3

pub four_is : (v : Value) → IsTrue (is_of 4 v) → four (field v 0) (field v 1) (field v 2) (field v 3) ≡ v
four_is = all_kept 4

pub five_is : (v : Value) → IsTrue (is_of 5 v) → five (field v 0) (field v 1) (field v 2) (field v 3) (field v 4) ≡ v
five_is = all_kept 5

pub six_is : (v : Value) → IsTrue (is_of 6 v) → six (field v 0) (field v 1) (field v 2) (field v 3) (field v 4) (field v 5) ≡ v
six_is = all_kept 6

pub seven_is : (v : Value) → IsTrue (is_of 7 v)
    → seven (field v 0) (field v 1) (field v 2) (field v 3) (field v 4) (field v 5) (field v 6) ≡ v
seven_is = all_kept 7

pub eight_is : (v : Value) → IsTrue (is_of 8 v)
    → eight (field v 0) (field v 1) (field v 2) (field v 3) (field v 4) (field v 5) (field v 6) (field v 7) ≡ v
eight_is = all_kept 8
