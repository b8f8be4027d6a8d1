-- Ids that stay, put into a list one after another.
use Rattle.std.proofs.Common.{◌≡◌, Bool, true, false, cond, not, List, [], ◌∷◌, ◌++◌, filter, fold, refl, sym, ap, ◌∙◌, subst, IsTrue, append_assoc}
use Rattle.std.proofs.lemmas.List.{append-nil}
use Rattle.std.specs.List.{list_all}
use Rattle.std.specs.Ordering.{is_lt}
use Rattle.eco_ids.specs.declared.id.Id.{Id}
use Rattle.std.specs.FinMap.Entries.{by_order}
use Rattle.eco_ids.specs.Order.{id_cmp, is_ascending, with_item}
use Rattle.eco_ids.proofs.Common.{list_all-append, sym, ◌∙◌}
use Rattle.eco_ids.proofs.Ascending.{both, first, less, second}

-- what is below all of two lists is below all of the first, and of what comes behind one of the second
below_front : (t : Id → Bool) (xs ys : List Id) → IsTrue (list_all t (xs ++ ys)) → IsTrue (list_all t xs)
below_front t xs ys h = first (list_all t xs) _ (sym (list_all-append t xs ys) ∙ h)

below_rest : (t : Id → Bool) (xs : List Id) (y : Id) (ys : List Id) → IsTrue (list_all t (xs ++ y ∷ ys)) → IsTrue (list_all t (xs ++ ys))
below_rest t [] y ys h = second (t y) (list_all t ys) h
below_rest t (x ∷ xs) y ys h =
    both (t x) (list_all t (xs ++ ys)) (first (t x) (list_all t (xs ++ y ∷ ys)) h) (below_rest t xs y ys (second (t x) (list_all t (xs ++ y ∷ ys)) h))

front_ascends : (xs ys : List Id) → IsTrue (is_ascending id_cmp (xs ++ ys)) → IsTrue (is_ascending id_cmp xs)
front_ascends [] ys h = refl
front_ascends (x ∷ xs) ys h =
    both (list_all (λ y. is_lt (id_cmp x y)) xs) (is_ascending id_cmp xs)
    (below_front (λ y. is_lt (id_cmp x y)) xs ys (first (list_all (λ y. is_lt (id_cmp x y)) (xs ++ ys)) (is_ascending id_cmp (xs ++ ys)) h))
    (front_ascends xs ys (second (list_all (λ y. is_lt (id_cmp x y)) (xs ++ ys)) (is_ascending id_cmp (xs ++ ys)) h))

rest_ascends : (xs : List Id) (y : Id) (ys : List Id) → IsTrue (is_ascending id_cmp (xs ++ y ∷ ys)) → IsTrue (is_ascending id_cmp (xs ++ ys))
rest_ascends [] y ys h = second (list_all (λ x. is_lt (id_cmp y x)) ys) (is_ascending id_cmp ys) h
rest_ascends (x ∷ xs) y ys h =
    both (list_all (λ z. is_lt (id_cmp x z)) (xs ++ ys)) (is_ascending id_cmp (xs ++ ys))
    (below_rest (λ z. is_lt (id_cmp x z)) xs y ys (first (list_all (λ z. is_lt (id_cmp x z)) (xs ++ y ∷ ys)) (is_ascending id_cmp (xs ++ y ∷ ys)) h))
    (rest_ascends xs y ys (second (list_all (λ z. is_lt (id_cmp x z)) (xs ++ y ∷ ys)) (is_ascending id_cmp (xs ++ y ∷ ys)) h))

-- what is above all of a list goes to its end
with_last : (xs : List Id) (x : Id) → IsTrue (is_ascending id_cmp (xs ++ x ∷ [])) → with_item id_cmp xs x ≡ xs ++ x ∷ []
with_last [] x h = refl
with_last (y ∷ ys) x h =
    let above : IsTrue (is_lt (id_cmp y x)) = last_of ys
    (first (list_all (λ z. is_lt (id_cmp y z)) (ys ++ x ∷ [])) (is_ascending id_cmp (ys ++ x ∷ [])) h) in
    ap (λ o. by_order o (y ∷ with_item id_cmp ys x) (y ∷ ys) (x ∷ y ∷ ys)) (less (id_cmp y x) above)
    ∙ ap (λ zs. y ∷ zs) (with_last ys x (second (list_all (λ z. is_lt (id_cmp y z)) (ys ++ x ∷ [])) (is_ascending id_cmp (ys ++ x ∷ [])) h))
  where
    last_of : (zs : List Id) → IsTrue (list_all (λ z. is_lt (id_cmp y z)) (zs ++ x ∷ [])) → IsTrue (is_lt (id_cmp y x))
    last_of [] all = first (is_lt (id_cmp y x)) true all
    last_of (z ∷ zs) all = last_of zs (second (is_lt (id_cmp y z)) (list_all (λ u. is_lt (id_cmp y u)) (zs ++ x ∷ [])) all)

module _ (goes : Id → Bool) where
  -- with those of the ids that stay
  abbrev pub with_staying : List Id → List Id → List Id
  with_staying ids kept = fold (λ ks i. cond (goes i) ks (with_item id_cmp ks i)) kept ids

  behind : (kept ids : List Id) → IsTrue (is_ascending id_cmp (kept ++ ids)) → with_staying ids kept ≡ kept ++ filter (λ i. not (goes i)) ids
  behind kept [] h = sym (append-nil kept)
  behind kept (i ∷ ids) h =
      let ascending = subst (λ xs. IsTrue (is_ascending id_cmp xs)) (sym (append_assoc kept (i ∷ []) ids)) h in
      by (goes i) (behind kept ids (rest_ascends kept i ids h))
      (ap (with_staying ids) (with_last kept i (front_ascends (kept ++ i ∷ []) ids ascending))
      ∙ behind (kept ++ i ∷ []) ids ascending
      ∙ append_assoc kept (i ∷ []) (filter (λ j. not (goes j)) ids))
    where
      by : (b : Bool) → with_staying ids kept ≡ kept ++ filter (λ j. not (goes j)) ids
          → with_staying ids (with_item id_cmp kept i) ≡ kept ++ i ∷ filter (λ j. not (goes j)) ids
          → with_staying ids (cond b kept (with_item id_cmp kept i))
          ≡ kept ++ cond (not b) (i ∷ filter (λ j. not (goes j)) ids) (filter (λ j. not (goes j)) ids)
      by true gone stays = gone
      by false gone stays = stays

  -- all of them
  pub all_staying : (ids : List Id) → IsTrue (is_ascending id_cmp ids) → with_staying ids [] ≡ filter (λ i. not (goes i)) ids
  all_staying ids h = behind [] ids h
