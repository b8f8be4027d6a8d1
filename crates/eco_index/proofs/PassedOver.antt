-- Ids that ascend, passed over where none of them names an entity.
use Rattle.eco_index.proofs.Common.{◌≡◌, ℕ, zero, suc, ◌<◌, ◌≤◌, Bool, true, false, cond}
use Rattle.eco_index.proofs.Common.{◌||◌, List, [], ◌∷◌, length, Some, IfSome, IsTrue}
use Rattle.eco_index.proofs.Common.{filter, get_or, slice_get, list_any, refl, sym, ap, ◌∙◌, subst}
use Rattle.eco_index.proofs.Common.{true≢false, add-one, arith, Entity, Id, One, Two, entity_eq, id_cmp}
use Rattle.eco_index.proofs.Common.{is_ascending, names_entity}
use Rattle.std.proofs.lemmas.Option.{slice_get-get_or}
use Rattle.std.specs.List.{list_all}
use Rattle.std.specs.Ordering.{is_lt, ordering_then, ordering_reverse}
use Rattle.std.specs.declared.cmp.Ordering.{Ordering}
use Rattle.std.specs.declared.cmp.Ordering.TheVariants.{Less, Equal, Greater}
use Rattle.eco_ids.proofs.Ascending.{first, second, less}
use Rattle.eco_ids.proofs.Facts.{neither}
use Rattle.eco_ids.proofs.IdOrder.{entity_cmp_total, id_cmp_total, same_entity}
use Rattle.eco_ids.specs.Order.{entity_cmp}
use Rattle.eco_index.specs.TypeNames.{named_from, IsFirstNamed}

-- between two pairs of one relationship
module _ (own e r : Entity) (rule : (y : Entity) → entity_eq own e ≡ false → IsTrue (is_lt (entity_cmp own y)) → IsTrue (is_lt (entity_cmp y r))
    → entity_eq y e ≡ false) where
  pub beside_pair : (f : Entity) (y : Id) → names_entity (Two f own) e ≡ false → IsTrue (is_lt (id_cmp (Two f own) y))
      → IsTrue (is_lt (id_cmp y (Two f r))) → names_entity y e ≡ false
  beside_pair f (One u) other up down = absurd (true≢false (sym up))
  beside_pair f (Two s u) other up down = by (entity_cmp f s) refl up
    where
      parts : (entity_eq f e ≡ false) × (entity_eq own e ≡ false)
      parts = neither _ _ other

      by : (o : Ordering) → entity_cmp f s ≡ o → IsTrue (is_lt (ordering_then o (entity_cmp own u))) → names_entity (Two s u) e ≡ false
      by Less is above =
          absurd (true≢false (sym down ∙ ap (λ o. is_lt (ordering_then o (entity_cmp u r))) (entity_cmp_total.antisymm s f ∙ ap ordering_reverse is)))
      by Equal is above =
          let below : IsTrue (is_lt (entity_cmp u r)) =
          sym (ap (λ o. is_lt (ordering_then o (entity_cmp u r))) (entity_cmp_total.antisymm s f ∙ ap ordering_reverse is)) ∙ down in
          ap (λ z. entity_eq z e || entity_eq u e) (sym (same_entity f s is)) ∙ ap (λ b. b || entity_eq u e) parts.0 ∙ rule u parts.1 above below
      by Greater is above = absurd (true≢false (sym above))

module _ (e : Entity) where
  head_named : (ids : List Id) (n : ℕ) (i : Id) → slice_get ids n ≡ Some i → names_entity i e ≡ true
      → named_from ids n e ≡ i ∷ named_from ids (suc n) e
  head_named [] n i at names = absurd (let bad = at in cc)
  head_named (x ∷ xs) zero i at names =
      let same : x ≡ i = let is = at in cc in
      ap (λ z. cond (names_entity z e) (z ∷ filter (λ j. names_entity j e) xs) (filter (λ j. names_entity j e) xs)) same
      ∙ ap (λ b. cond b (i ∷ filter (λ j. names_entity j e) xs) (filter (λ j. names_entity j e) xs)) names
  head_named (x ∷ xs) (suc n) i at names = head_named xs n i at names

  -- the first that names the entity is found
  pub is_first : (ids : List Id) (from n : ℕ) (d : Id) → n < length ids → named_from ids from e ≡ named_from ids n e
      → names_entity (get_or ids n d) e ≡ true → IsFirstNamed ids from e n
  is_first ids from n d within left names =
      let at : slice_get ids n ≡ Some (get_or ids n d) = slice_get-get_or ids n d within in
      record {
        within = within;
        id = get_or ids n d;
        at = at;
        first = left ∙ head_named ids n (get_or ids n d) at names ∙ ap (λ k. get_or ids n d ∷ named_from ids k e) (sym (add-one n));
      }

  pub some_named : (ids : List Id) (i : Id) (rest : List Id) → filter (λ j. names_entity j e) ids ≡ i ∷ rest
      → list_any (λ j. names_entity j e) ids ≡ true
  some_named [] i rest is = absurd (let bad = is in cc)
  some_named (x ∷ xs) i rest is = by (names_entity x e) is (some_named xs i rest)
    where
      by : (b : Bool) → cond b (x ∷ filter (λ j. names_entity j e) xs) (filter (λ j. names_entity j e) xs) ≡ i ∷ rest
          → (filter (λ j. names_entity j e) xs ≡ i ∷ rest → list_any (λ j. names_entity j e) xs ≡ true)
          → (b || list_any (λ j. names_entity j e) xs) ≡ true
      by true h later = refl
      by false h later = later h

  pub nobody_named : (ids : List Id) → filter (λ j. names_entity j e) ids ≡ [] → list_any (λ j. names_entity j e) ids ≡ false
  nobody_named [] is = refl
  nobody_named (x ∷ xs) is = by (names_entity x e) is (nobody_named xs)
    where
      by : (b : Bool) → cond b (x ∷ filter (λ j. names_entity j e) xs) (filter (λ j. names_entity j e) xs) ≡ []
          → (filter (λ j. names_entity j e) xs ≡ [] → list_any (λ j. names_entity j e) xs ≡ false)
          → (b || list_any (λ j. names_entity j e) xs) ≡ false
      by true h later = absurd (let bad = h in cc)
      by false h later = later h

  module _ (i bound : Id) (rule : (y : Id) → names_entity i e ≡ false → IsTrue (is_lt (id_cmp i y)) → IsTrue (is_lt (id_cmp y bound))
      → names_entity y e ≡ false) (other : names_entity i e ≡ false) where
    all_some : (t : Id → Bool) (xs : List Id) (k : ℕ) (y : Id) → IsTrue (list_all t xs) → slice_get xs k ≡ Some y → IsTrue (t y)
    all_some t [] k y h at = absurd (let bad = at in cc)
    all_some t (x ∷ xs) zero y h at = subst (λ z. IsTrue (t z)) (let is = at in cc) (first _ _ h)
    all_some t (x ∷ xs) (suc k) y h at = all_some t xs k y (second _ _ h) at

    -- all up to one that is less than the bound
    up_to : (xs : List Id) (k : ℕ) (y : Id) → IsTrue (is_ascending id_cmp xs) → IsTrue (list_all (λ z. is_lt (id_cmp i z)) xs)
        → slice_get xs k ≡ Some y → IsTrue (is_lt (id_cmp y bound)) → filter (λ j. names_entity j e) xs ≡ named_from xs (suc k) e
    up_to [] k y up above at below = absurd (let bad = at in cc)
    up_to (x ∷ xs) zero y up above at below =
        let same : y ≡ x = let is = at in cc in
        let not : names_entity x e ≡ false = rule x other (first _ _ above) (subst (λ z. IsTrue (is_lt (id_cmp z bound))) same below) in
        ap (λ b. cond b (x ∷ filter (λ j. names_entity j e) xs) (filter (λ j. names_entity j e) xs)) not
    up_to (x ∷ xs) (suc k) y up above at below =
        let lower : IsTrue (is_lt (id_cmp x y)) = all_some (λ z. is_lt (id_cmp x z)) xs k y (first _ _ up) at in
        let not : names_entity x e ≡ false =
        rule x other (first _ _ above) (ap is_lt (id_cmp_total.trans x y bound (less _ lower) (less _ below))) in
        ap (λ b. cond b (x ∷ filter (λ j. names_entity j e) xs) (filter (λ j. names_entity j e) xs)) not
        ∙ up_to xs k y (second _ _ up) (second _ _ above) at below

    -- none is passed over that names the entity
    pub passed : (ids : List Id) (n last : ℕ) → IsTrue (is_ascending id_cmp ids) → slice_get ids n ≡ Some i → n ≤ last → last < length ids
        → (n < last → IfSome (slice_get ids last) (λ y. IsTrue (is_lt (id_cmp y bound)))) → named_from ids n e ≡ named_from ids (suc last) e
    passed [] n last up at order within below = absurd (omega (arith, within))
    passed (x ∷ xs) zero zero up at order within below =
        let same : x ≡ i = let is = at in cc in
        ap (λ z. cond (names_entity z e) (z ∷ filter (λ j. names_entity j e) xs) (filter (λ j. names_entity j e) xs)) same
        ∙ ap (λ b. cond b (i ∷ filter (λ j. names_entity j e) xs) (filter (λ j. names_entity j e) xs)) other
    passed (x ∷ xs) zero (suc k) up at order within below =
        let same : x ≡ i = let is = at in cc in
        ap (λ z. cond (names_entity z e) (z ∷ filter (λ j. names_entity j e) xs) (filter (λ j. names_entity j e) xs)) same
        ∙ ap (λ b. cond b (i ∷ filter (λ j. names_entity j e) xs) (filter (λ j. names_entity j e) xs)) other
        ∙ up_to xs k (get_or xs k x) (second _ _ up)
        (subst (λ z. IsTrue (list_all (λ j. is_lt (id_cmp z j)) xs)) (let is = at in cc) (first _ _ up)) there
        (subst (λ o. IfSome o (λ y. IsTrue (is_lt (id_cmp y bound)))) there (below (omega arith)))
      where
        there : slice_get xs k ≡ Some (get_or xs k x)
        there = slice_get-get_or xs k x (omega (arith, within))
    passed (x ∷ xs) (suc n) zero up at order within below = absurd (omega (arith, order))
    passed (x ∷ xs) (suc n) (suc k) up at order within below =
        passed xs n k (second _ _ up) at (omega (arith, order)) (omega (arith, within)) (λ l. below (omega (arith, l)))
