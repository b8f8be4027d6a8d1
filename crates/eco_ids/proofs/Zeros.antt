-- Values of few fields.
use Rattle.eco_ids.proofs.Common.{◌≡◌, ℕ, ◌-◌, List, [], ◌∷◌, ◌++◌, length, take, drop, replicate, pos, list_all, IsTrue, refl, sym, ap, ◌∙◌, arith}
use Rattle.eco_ids.proofs.Common.{length-drop, take-append-drop}
use Rattle.std.specs.Prelude.{ℤ}
use Rattle.std.specs.Ordering.{int_eq}
use Rattle.std.proofs.lemmas.List.{length-take}
use Rattle.std.proofs.lemmas.Map.Lookups.{exact_signed}
use Rattle.eco_ids.proofs.Ascending.{first, second}
use Rattle.eco_ids.proofs.Overlaps.{equal_tie}
use Rattle.eco_ids.specs.Data.{is_zero_past}
use Rattle.eco_ids.specs.declared.value.Value.{Value}
use Rattle.eco_ids.specs.declared.value.TheConstants.{FIELD_COUNT}

zeros_are : (xs : List ℤ) → IsTrue (list_all (λ x. int_eq x (pos 0)) xs) → xs ≡ replicate (length xs) (pos 0)
zeros_are [] all = refl
zeros_are (x ∷ xs) all =
    let here : x ≡ pos 0 = exact_signed x (pos 0) (equal_tie _ (first _ _ all)) in
    let there = zeros_are xs (second _ _ all) in
    λ t. here t ∷ there t

-- where all fields behind so many are zeros, the value is these and zeros
pub few_fields : (k : ℕ) (v : Value) → length v.0 ≡ FIELD_COUNT → IsTrue (is_zero_past k v)
    → take k v.0 ++ replicate (FIELD_COUNT - length (take k v.0)) (pos 0) ≡ v.0
few_fields k v full zeros =
    let rest : drop k v.0 ≡ replicate (length (drop k v.0)) (pos 0) = zeros_are (drop k v.0) zeros in
    let taken = length-take k v.0 in
    let dropped = length-drop k v.0 in
    let many : FIELD_COUNT - length (take k v.0) ≡ length (drop k v.0) = omega (arith, full, taken, dropped) in
    ap (λ n. take k v.0 ++ replicate n (pos 0)) many ∙ ap (λ ys. take k v.0 ++ ys) (sym rest) ∙ take-append-drop k v.0
