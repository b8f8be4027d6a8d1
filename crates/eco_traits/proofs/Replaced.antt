-- What a pair of an exclusive relationship replaces, where that is one pair at most.
use Rattle.eco_traits.proofs.Common.{◌≡◌, Bool, true, false, cond, not, ◌&&◌, ◌||◌, inl, inr, List, [], ◌∷◌, filter, refl, sym, ap}
use Rattle.eco_traits.proofs.Common.{same_tests, ◌∙◌, subst, true≢false, IsTrue, IsFalse, Option, Some, None, is_some, option_map, if◌then◌else◌}
use Rattle.eco_traits.proofs.Common.{list_any, and_right, or_left, Entity, ACYCLIC, EXCLUSIVE, Id, One, Two, id_cmp, id_eq, entity_eq, has_item, is_ascending}
use Rattle.eco_traits.proofs.Common.{with_item, without_item, is_pair_of, is_replaced, is_wrong_policy, Reaches, root, next, WorldState, has, is_acyclic}
use Rattle.eco_traits.proofs.Common.{is_exclusive, names_living, record_of, id_eq_sym, id_eq_is, id_eq_itself, same_or_apart, same_relationship, same_id}
use Rattle.eco_traits.proofs.Common.{entity_eq_is, entity_eq_itself, BringsNone, IsSound, Replaces, without_replaced, ties, type_of_record}
use Rattle.std.proofs.Common.{find}
use Rattle.std.proofs.lemmas.Bool.{or_parts, or_right}
use Rattle.eco_traits.proofs.Joined.{leads_to}
use Rattle.eco_traits.proofs.Members.{only}
use Rattle.eco_traits.proofs.Plain.{alone_judged, comes_alone, pair_calm, pair_late}
use Rattle.eco_traits.proofs.Walks.{has_listed, some_is}

-- ---- the only one of its kind

module _ (p : Id → Bool) where
  is_first : (ids : List Id) (first : Id) → find p ids ≡ Some first → p first ≡ true
  is_first [] first h = absurd (true≢false (sym (ap is_some h)))
  is_first (x ∷ xs) first h =
      elim (p x) as (λ b. p x ≡ b → (if b then Some x else find p xs) ≡ Some first → p first ≡ true) [
        | true ↦ λ e k. subst (λ y. p y ≡ true) (some_is x first k) e
        | false ↦ λ e k. is_first xs first k
      ] refl h

  pub none_goes : (ids : List Id) → find p ids ≡ None → ids ≡ filter (λ i. not (p i)) ids
  none_goes [] h = refl
  none_goes (x ∷ xs) h =
      elim (p x) as (λ b. (if b then Some x else find p xs) ≡ None → x ∷ xs ≡ cond (not b) (x ∷ filter (λ i. not (p i)) xs) (filter (λ i. not (p i)) xs)) [
        | true ↦ λ k. absurd (true≢false (ap is_some k))
        | false ↦ λ k. ap (λ ys. x ∷ ys) (none_goes xs k)
      ] h

  pub is_among : (ids : List Id) (first : Id) → find p ids ≡ Some first → has_item id_cmp ids first ≡ true
  is_among [] first h = absurd (true≢false (sym (ap is_some h)))
  is_among (x ∷ xs) first h =
      elim (p x) as (λ b. (if b then Some x else find p xs) ≡ Some first → has_item id_cmp (x ∷ xs) first ≡ true) [
        | true ↦ λ k. or_left (id_eq x first) (has_item id_cmp xs first) (subst (λ y. id_eq x y ≡ true) (some_is x first k) (id_eq_itself x))
        | false ↦ λ k. or_right (id_eq x first) (has_item id_cmp xs first) (is_among xs first k)
      ] h

  tie : (a b : Bool) → (a && not b) ≡ false → (b ≡ true → a ≡ true) → b ≡ a
  tie true true h k = refl
  tie true false h k = absurd (true≢false h)
  tie false true h k = absurd (true≢false (sym (k refl)))
  tie false false h k = refl

  one_goes_in : (first : Id) → p first ≡ true → (ids : List Id) → list_any (λ i. p i && not (id_eq i first)) ids ≡ false
      → without_item id_cmp ids first ≡ filter (λ i. not (p i)) ids
  one_goes_in first is [] h = refl
  one_goes_in first is (x ∷ xs) h =
      let parts = or_parts (p x && not (id_eq x first)) (list_any (λ i. p i && not (id_eq i first)) xs) h in
      let same : id_eq x first ≡ p x = tie (p x) (id_eq x first) parts.0 (λ e. subst (λ y. p y ≡ true) (sym (id_eq_is x first e)) is) in
      ap (λ b. cond (not b) (x ∷ without_item id_cmp xs first) (without_item id_cmp xs first)) same
      ∙ ap (λ ys. cond (not (p x)) (x ∷ ys) ys) (one_goes_in first is xs parts.1)

  -- it is the first, and there is no other
  pub one_goes : (ids : List Id) (first : Id) → find p ids ≡ Some first → list_any (λ i. p i && not (id_eq i first)) ids ≡ false
      → without_item id_cmp ids first ≡ filter (λ i. not (p i)) ids
  one_goes ids first found alone = one_goes_in first (is_first ids first found) ids alone

-- where the relationship isn't exclusive nothing goes
pub all_stay : (p : Id → Bool) (x : Bool) (ids : List Id) → x ≡ false → ids ≡ filter (λ i. not (x && p i)) ids
all_stay p x ids h = stay ids ∙ ap (λ b. filter (λ i. not (b && p i)) ids) (sym h)
  where
    stay : (ys : List Id) → ys ≡ filter (λ i. not (false && p i)) ys
    stay [] = refl
    stay (y ∷ ys) = ap (λ zs. y ∷ zs) (stay ys)

pub some_goes : (p : Id → Bool) (x : Bool) (ids left : List Id) → x ≡ true → left ≡ filter (λ i. not (p i)) ids
    → left ≡ filter (λ i. not (x && p i)) ids
some_goes p x ids left h is = is ∙ ap (λ b. filter (λ i. not (b && p i)) ids) (sym h)

-- ---- walks that lead nowhere

stuck : (w : WorldState) (r from : Entity) → ((x : Entity) → IsFalse (has w from (Two r x))) → (b : Entity) → Reaches w r from b → b ≡ from
stuck w r from none b (root h) = h
stuck w r from none b (next member edge) =
    absurd (true≢false (sym (subst (λ x. IsTrue (has w x (Two r b))) (stuck w r from none _ member) edge) ∙ none b))

-- the first pair is missing
pub leads_nowhere : (w : WorldState) (r from goal : Entity) → (from ≡ goal → ⊥) → ((x : Entity) → IsFalse (has w from (Two r x)))
    → Reaches w r from goal → ⊥
leads_nowhere w r from goal apart none walk = apart (sym (stuck w r from none goal walk))

-- no pair of the relationship is among the ids
pub no_pair : (ids : List Id) (r t : Entity) → list_any (is_pair_of r) ids ≡ false → has_item id_cmp ids (Two r t) ≡ false
no_pair [] r t h = refl
no_pair (x ∷ xs) r t h =
    let parts = or_parts (is_pair_of r x) (list_any (is_pair_of r) xs) h in
    let differs : id_eq x (Two r t) ≡ false =
    same_tests (id_eq x (Two r t)) false
    (λ e. absurd (true≢false (sym (subst (λ y. IsTrue (is_pair_of r y)) (sym (id_eq_is x (Two r t) e)) (entity_eq_itself r)) ∙ parts.0)))
    (λ e. absurd (true≢false (sym e))) in
    ap (λ b. b || has_item id_cmp xs (Two r t)) differs ∙ no_pair xs r t parts.1

-- ---- the pair alone

module _ (w : WorldState) (r t : Entity) (traits : List Id) (are : Some traits ≡ option_map type_of_record (record_of w r)) where
  abbrev exclusive : Bool
  exclusive = has_item id_cmp traits (One EXCLUSIVE)

  apart_tests : (a b : Entity) → (a ≡ b → ⊥) → entity_eq a b ≡ false
  apart_tests a b n = same_tests (entity_eq a b) false (λ h. absurd (n (entity_eq_is a b h))) (λ h. absurd (true≢false (sym h)))

  replaced_is : (j : Id) → id_eq j (Two r t) ≡ false → (exclusive && is_pair_of r j) ≡ is_replaced w (Two r t ∷ []) j
  replaced_is (One e) other = and_right exclusive false refl
  replaced_is (Two q u) other =
      elim (same_or_apart r q) as (λ _. (exclusive && entity_eq r q)
      ≡ (is_exclusive w q && ((entity_eq q r || false) && not (id_eq (Two r t) (Two q u) || false)))) [
        | inl e ↦
            let has_it : is_exclusive w q ≡ exclusive = ap (is_exclusive w) (sym e) ∙ has_listed w r (One EXCLUSIVE) traits are in
            let back : entity_eq q r ≡ true = subst (λ x. IsTrue (entity_eq x r)) e (entity_eq_itself r) in
            let forth : entity_eq r q ≡ true = subst (λ x. IsTrue (entity_eq r x)) e (entity_eq_itself r) in
            let differs : id_eq (Two r t) (Two q u) ≡ false = id_eq_sym (Two r t) (Two q u) ∙ other in
            ap (λ b. exclusive && b) forth
            ∙ sym (λ s. has_it s && ((back s || false) && not (differs s || false)))
        | inr n ↦
            and_right exclusive (entity_eq r q) (apart_tests r q n)
            ∙ sym (and_right (is_exclusive w q) _ (ap (λ b. (b || false) && not (id_eq (Two r t) (Two q u) || false)) (apart_tests q r (λ e. n (sym e)))))
      ]

  left_is : (ids : List Id) → has_item id_cmp ids (Two r t) ≡ false
      → filter (λ i. not (exclusive && is_pair_of r i)) ids ≡ filter (λ i. not (is_replaced w (Two r t ∷ []) i)) ids
  left_is [] h = refl
  left_is (x ∷ xs) h =
      let parts = or_parts (id_eq x (Two r t)) (has_item id_cmp xs (Two r t)) h in
      let rest = filter (λ i. not (exclusive && is_pair_of r i)) xs in
      ap (λ b. cond (not b) (x ∷ rest) rest) (replaced_is x parts.0)
      ∙ ap (λ ys. cond (not (is_replaced w (Two r t ∷ []) x)) (x ∷ ys) ys) (left_is xs parts.1)

  pub replaces : (e : Entity) (own : List Id) (replaced : Option Id) → names_living w (Two r t) ≡ true → has w e (Two r t) ≡ false
      → Some own ≡ option_map type_of_record (record_of w e) → IsTrue (is_ascending id_cmp own)
      → IsSound w → ties w own r t ≡ false
      → is_wrong_policy (Two r t) ≡ false → BringsNone traits → (IsTrue (has_item id_cmp traits (One ACYCLIC)) → Reaches w r t e → ⊥)
      → without_replaced replaced own ≡ filter (λ i. not (exclusive && is_pair_of r i)) own
      → Replaces w e (Two r t) own replaced
  replaces e own replaced lives absent owns up sound free policy brings no_walk left =
      let closure = comes_alone w (Two r t) traits are brings in
      leads_to w e (Two r t) (Two r t ∷ []) own (without_replaced replaced own)
      (with_item id_cmp (without_replaced replaced own) (Two r t)) None lives absent closure
      (alone_judged w e (Two r t) (ap (λ b. b || false) policy) (pair_late w e r t)
      (λ q closes.
      let pair = only same_id (Two r t) (Two q closes.1) closes.2 in
      let same : r ≡ q = same_relationship pair in
      no_walk (sym (has_listed w r (One ACYCLIC) traits are) ∙ ap (is_acyclic w) same ∙ closes.0)
      (subst (λ x. Reaches w r x e) (sym (same_target pair)) (subst (λ x. Reaches w x closes.1 e) (sym same) closes.3)))
      (pair_calm w e r t own owns closure lives sound free))
      refl owns up (left ∙ left_is own (sym (has_listed w e (Two r t) own owns) ∙ absent)) refl
    where
      target_in : Id → Entity
      target_in (One a) = a
      target_in (Two a b) = b

      same_target : {q u : Entity} → Two r t ≡ Two q u → t ≡ u
      same_target h = ap target_in h
