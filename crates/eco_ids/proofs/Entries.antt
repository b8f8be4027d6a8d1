-- Ids with values, in the order of the ids.
use Rattle.eco_ids.proofs.Common.{◌≡◌, Bool, true, false, cond, ◌&&◌, T, List, [], ◌∷◌, Some, None, refl, sym, ap, ◌∙◌, subst, is_eq, is_lt}
use Rattle.eco_ids.proofs.Common.{Less, Equal, Greater, none-some, list_all, find, is_sorted, below_all, Id, Value, id_cmp, id_eq, is_ascending}
use Rattle.eco_ids.proofs.Exact.{keys}
use Rattle.eco_ids.proofs.Facts.{id_eq_is}

pub none_below : (i : Id) (held : List (Id × Value)) → T (below_all id_cmp i held) → find id_cmp i held ≡ None
none_below i [] below = refl
none_below i (p ∷ held) below =
    elim (id_cmp i p.0) as (λ o. T (is_lt o && below_all id_cmp i held) → cond (is_eq o) (Some p.1) (find id_cmp i held) ≡ None) [
      | Less ↦ λ rest. none_below i held rest
      | Equal ↦ λ no_case. absurd no_case
      | Greater ↦ λ no_case. absurd no_case
    ] below

-- what is found behind an entry stands under another id
pub apart : (i : Id) (p : Id × Value) (held : List (Id × Value)) (v : Value) → T (below_all id_cmp p.0 held) → find id_cmp i held ≡ Some v
    → id_eq i p.0 ≡ false
apart i p held v below at = by (id_eq i p.0) refl
  where
    by : (b : Bool) → id_eq i p.0 ≡ b → b ≡ false
    by true e = absurd (none-some v (sym (none_below i held (subst (λ j. T (below_all id_cmp j held)) (sym (id_eq_is i p.0 e)) below)) ∙ at))
    by false e = refl

below_is : (i : Id) (held : List (Id × Value)) → below_all id_cmp i held ≡ list_all (λ j. is_lt (id_cmp i j)) (keys held)
below_is i [] = refl
below_is i (p ∷ held) = ap (λ b. is_lt (id_cmp i p.0) && b) (below_is i held)

-- entries are in order where their ids are
pub sorted_is : (held : List (Id × Value)) → is_sorted id_cmp held ≡ is_ascending id_cmp (keys held)
sorted_is [] = refl
sorted_is (p ∷ held) = λ t. below_is p.0 held t && sorted_is held t
