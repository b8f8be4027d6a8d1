-- Sums of values.
use Rattle.std.specs.Prelude.{ℤ, pos, negsuc, ◌+ℤ◌, ◌-◌, ◌^◌, min, List, [], ◌∷◌, Option, option_and_then, option_map}
use Rattle.eco_ids.specs.declared.value.Value.{Value}

-- the number, or the bound of a field's range that is nearest to it
abbrev pub bounded : ℤ → ℤ
bounded (pos n) = pos (min n (2 ^ 63 - 1))
bounded (negsuc n) = negsuc (min n (2 ^ 63 - 1))

abbrev pub bounded_sum : ℤ → ℤ → ℤ
bounded_sum x y = bounded (x +ℤ y)

-- field by field
abbrev pub field_sums : List ℤ → List ℤ → List ℤ
field_sums [] ys = []
field_sums (x ∷ xs) [] = []
field_sums (x ∷ xs) (y ∷ ys) = bounded_sum x y ∷ field_sums xs ys

-- the sum of two values, field by field, each within the range of a field
abbrev pub sum_of : Value → Value → Value
sum_of a b = record { 0 = field_sums a.0 b.0 }

-- where there are both
abbrev pub sum_of_both : Option Value → Option Value → Option Value
sum_of_both a b = option_and_then (λ x. option_map (λ y. sum_of x y) b) a
