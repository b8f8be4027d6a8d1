-- An item behind all that are there.
use Rattle.eco_ids.proofs.Common.{◌≡◌, ◌-◌, List, [], ◌∷◌, ◌++◌, length, slice_get, Some, None, is_some, IsTrue, is_lt, true≢false, sym, refl, ap}
use Rattle.eco_ids.proofs.Common.{◌∙◌, subst, Ordering, IsTotalOrder, list_all, by_order, Id, id_cmp, is_ascending, with_item, arith, unwrap_or}
use Rattle.eco_ids.proofs.Common.{false, ◌||◌, is_eq, Err, has_item, SearchSays}
use Rattle.std.proofs.lemmas.List.Edits.{insert_end}
use Rattle.eco_ids.proofs.Ascending.{both, first, less, second, without_absent}
use Rattle.eco_ids.proofs.IdOrder.{id_cmp_total}

module _ {K : Type 0} {R : K → K → Ordering} (o : IsTotalOrder R) where
  -- where the last is below it, all are
  all_below : (ys : List K) (y x : K) → IsTrue (is_ascending R (y ∷ ys)) → (last : K) → slice_get (y ∷ ys) (length ys) ≡ Some last
      → IsTrue (is_lt (R last x)) → IsTrue (list_all (λ z. is_lt (R z x)) (y ∷ ys))
  all_below [] y x up last at below =
      both _ _ (subst (λ z. IsTrue (is_lt (R z x))) (sym (ap (λ o. unwrap_or o y) at)) below) refl
  all_below (z ∷ zs) y x up last at below =
      let rest = all_below zs z x (second _ _ up) last at below in
      both _ _ (ap is_lt (o.trans y z x (less _ (first _ _ (first _ _ up))) (less _ (first _ _ rest)))) rest

  -- its place is the end
  at_end : (xs : List K) (x : K) → IsTrue (list_all (λ z. is_lt (R z x)) xs) → with_item R xs x ≡ xs ++ x ∷ []
  at_end [] x h = refl
  at_end (y ∷ ys) x h =
      ap (λ r. by_order r (y ∷ with_item R ys x) (y ∷ ys) (x ∷ y ∷ ys)) (less _ (first _ _ h))
      ∙ ap (λ zs. y ∷ zs) (at_end ys x (second _ _ h))

  -- and it is not there
  not_there : (xs : List K) (x : K) → IsTrue (list_all (λ z. is_lt (R z x)) xs) → has_item R xs x ≡ false
  not_there [] x h = refl
  not_there (y ∷ ys) x h = ap (λ r. is_eq r || has_item R ys x) (less _ (first _ _ h)) ∙ not_there ys x (second _ _ h)

  says_end : (xs : List K) (x : K) → IsTrue (list_all (λ z. is_lt (R z x)) xs) → SearchSays R xs x (Err (length xs))
  says_end xs x h = let none = not_there xs x h in (none, insert_end xs x ∙ sym (at_end xs x h), without_absent o xs x none)

-- an id that is above the last would go to the end
pub goes_behind : (ids : List Id) (id last : Id) → slice_get ids (length ids - 1) ≡ Some last → IsTrue (is_lt (id_cmp last id))
    → IsTrue (is_ascending id_cmp ids) → SearchSays id_cmp ids id (Err (length ids))
goes_behind [] id last at below up = says_end id_cmp_total [] id refl
goes_behind (y ∷ ys) id last at below up =
    let place : length (y ∷ ys) - 1 ≡ length ys = omega arith in
    says_end id_cmp_total (y ∷ ys) id (all_below id_cmp_total ys y id up last (sym (ap (slice_get (y ∷ ys)) place) ∙ at) below)

-- the first one too
pub goes_first : (ids : List Id) (id : Id) → slice_get ids (length ids - 1) ≡ None → SearchSays id_cmp ids id (Err (length ids))
goes_first [] id at = says_end id_cmp_total [] id refl
goes_first (y ∷ ys) id at = absurd (some_at ys y (sym (ap (slice_get (y ∷ ys)) place) ∙ at))
  where
    place : length (y ∷ ys) - 1 ≡ length ys
    place = omega arith

    some_at : (zs : List Id) (z : Id) → slice_get (z ∷ zs) (length zs) ≡ None → ⊥
    some_at [] z h = true≢false (ap is_some h)
    some_at (w ∷ ws) z h = some_at ws w h
