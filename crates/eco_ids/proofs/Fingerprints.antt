-- What is left of a fingerprint when an id leaves.
use Rattle.eco_ids.proofs.Common.{◌≡◌, ℕ, ◌+◌, ◌-◌, ◌%◌, ◌^◌, ◌≤◌, List, get_or, slice_get, Some, remove, sym, ap, ◌∙◌, arith, slice_get_within}
use Rattle.eco_ids.proofs.Common.{get_or_from_slice_get, Id}
use Rattle.std.proofs.Math.Nat.{add-mod_right, mod-add-mod}
use Rattle.std.proofs.lemmas.List.Sums.{sum_by-remove}
use Rattle.std.specs.List.{sum_by}
use Rattle.eco_ids.specs.Fingerprint.{fingerprint, id_share}

-- what is taken off a number in so many bits
taken_off : (w rest one all : ℕ) → one ≤ w → rest + one ≡ all → (all % w + (w - one)) % w ≡ rest % w
taken_off w rest one all fits is =
    let back : all + (w - one) ≡ rest + w = omega arith in
    mod-add-mod all w (w - one) ∙ ap (λ n. n % w) back ∙ add-mod_right rest w

pub left_sum : (ids : List Id) (place : ℕ) (i : Id) → slice_get ids place ≡ Some i → id_share i ≤ 2 ^ 64
    → (fingerprint ids + (2 ^ 64 - id_share i)) % 2 ^ 64 ≡ fingerprint (remove ids place)
left_sum ids place i there fits =
    let own : id_share (get_or ids place i) ≡ id_share i = ap id_share (get_or_from_slice_get ids place i i there) in
    let all : sum_by id_share (remove ids place) + id_share i ≡ sum_by id_share ids =
    ap (λ n. sum_by id_share (remove ids place) + n) (sym own) ∙ sum_by-remove id_share ids place i (slice_get_within ids place i there) in
    taken_off (2 ^ 64) (sum_by id_share (remove ids place)) (id_share i) (sum_by id_share ids) fits all
