-- The closure of an id where nothing that it brings brings more.
use Rattle.eco_traits.proofs.Common.{◌≡◌, if◌then◌else◌, ℕ, ◌+◌, ◌<◌, Bool, true, false, ◌&&◌, ◌||◌, ◌⊎◌, inl, inr, List}
use Rattle.eco_traits.proofs.Common.{[], ◌∷◌, length, take, get_or, refl, sym, ap, ◌∙◌, subst, true≢false, IsTrue, Option, Some, None, is_some}
use Rattle.eco_traits.proofs.Common.{list_any, or-false, map_more, take_more, Entity, WITH, Id, One, Two, root, next, id_cmp, id_eq, entity_eq, has_item}
use Rattle.eco_traits.proofs.Common.{is_ascending, with_item, IsClosure, InClosure, Reaches, WorldState, has, ascending_with, both, first, second, any_is}
use Rattle.eco_traits.proofs.Common.{id_eq_is, id_eq_itself, or_parts, or_right, id_cmp_total, entity_eq_is, entity_eq_itself, joins_with, BringNoMore}
use Rattle.eco_traits.proofs.Common.{HasGiven, HasSameIds, LacksWith, gives, head_of, with_head, with_heads, target_by_pair, type_of_entity, is_with}
use Rattle.std.proofs.lemmas.List.Folds.{list_any-append, list_any_at}
use Rattle.eco_ids.proofs.Facts.{or_left}
use Rattle.eco_traits.proofs.Closures.{closure_to_reach, own_head, reach_to_closure}
use Rattle.eco_traits.proofs.Traits.{member, not_so, with_among}
use Rattle.eco_traits.proofs.Walks.{has_listed}

-- ---- one id more is looked at

-- the id with this head, if there is one
abbrev pub is_by : Id → Id → Option Entity → Bool
is_by i j None = false
is_by i j (Some x) = id_eq (with_head i x) j

pub gives_target : (i j own : Id) → gives i j own ≡ is_by i j (target_by_pair WITH own)
gives_target i j (One c) = refl
gives_target i j (Two r x) = elim (entity_eq r WITH) as (λ b. (b && id_eq (with_head i x) j) ≡ is_by i j (if b then Some x else None)) [
  | true ↦ refl
  | false ↦
      refl
]

pub given_more : (i j : Id) (traits : List Id) (k : ℕ) (d : Id) → k < length traits → list_any (gives i j) (take (k + 1) traits)
    ≡ (list_any (gives i j) (take k traits) || is_by i j (target_by_pair WITH (get_or traits k d)))
given_more i j traits k d l =
    ap (list_any (gives i j)) (take_more traits k d l) ∙ list_any-append (gives i j) (take k traits) (get_or traits k d ∷ [])
    ∙ ap (λ b. list_any (gives i j) (take k traits) || b) (or-false _ ∙ gives_target i j (get_or traits k d))

-- the ids, and this one with the head, if there is one
abbrev pub put_by : Id → List Id → Option Entity → List Id
put_by i ids None = ids
put_by i ids (Some x) = with_item id_cmp ids (with_head i x)

pub put_joins : (i : Id) (ids : List Id) (o : Option Entity) (j : Id) → has_item id_cmp (put_by i ids o) j ≡ (is_by i j o || has_item id_cmp ids j)
put_joins i ids None j = refl
put_joins i ids (Some x) j = joins_with id_cmp_total ids (with_head i x) j

pub put_ascends : (i : Id) (ids : List Id) (o : Option Entity) → IsTrue (is_ascending id_cmp ids) → IsTrue (is_ascending id_cmp (put_by i ids o))
put_ascends i ids None up = up
put_ascends i ids (Some x) up = ascending_with id_cmp_total ids (with_head i x) up

pub keeps_given : (i : Id) (ids traits : List Id) (k : ℕ) (d : Id) (o : Option Entity) → k < length traits → o ≡ target_by_pair WITH (get_or traits k d)
    → HasGiven ids i (take k traits) → HasGiven (put_by i ids o) i (take (k + 1) traits)
keeps_given i ids traits k d o l is has j =
    put_joins i ids o j ∙ ap (λ b. is_by i j o || b) (has j) ∙ regroup (is_by i j o) (id_eq i j) (list_any (gives i j) (take k traits))
    ∙ ap (λ b. id_eq i j || b) (ap (λ p. list_any (gives i j) (take k traits) || is_by i j p) is ∙ sym (given_more i j traits k d l))
  where
    regroup : (a b c : Bool) → (a || (b || c)) ≡ (b || (c || a))
    regroup true true c = refl
    regroup true false true = refl
    regroup true false false = refl
    regroup false true c = refl
    regroup false false true = refl
    regroup false false false = refl

-- a pair of With with a target is among the ids
target_is_pair : (x : Entity) (own : Id) → target_by_pair WITH own ≡ Some x → is_with own ≡ true
target_is_pair x (One c) e = absurd (true≢false (sym (ap is_some e)))
target_is_pair x (Two r t) e =
    elim (entity_eq r WITH) as (λ b. (if b then Some t else None) ≡ Some x → b ≡ true) [
      | true ↦ λ e. refl
      | false ↦ λ e. absurd (true≢false (sym (ap is_some e)))
    ] e

pub none_without : (traits : List Id) (k : ℕ) (d : Id) (x : Entity) → k < length traits → target_by_pair WITH (get_or traits k d) ≡ Some x
    → list_any is_with traits ≡ false → ⊥
none_without traits k d x l e none =
    true≢false (sym (list_any_at is_with traits k d l (target_is_pair x (get_or traits k d) e)) ∙ none)

pub given_first : (i : Id) (empty ids : List Id) → empty ≡ [] → ids ≡ with_item id_cmp empty i → HasGiven ids i []
given_first i empty ids none is j = ap (λ xs. has_item id_cmp xs j) (is ∙ ap (λ xs. with_item id_cmp xs i) none) ∙ joins_with id_cmp_total [] i j

-- one head more is put in the place of the id's own
pub keeps_heads : (i : Id) (ids new : List Id) (heads : List Entity) (k : ℕ) (d : Entity) → k < length heads
    → new ≡ with_item id_cmp ids (with_head i (get_or heads k d))
    → HasSameIds ids (with_heads i (take k heads)) → HasSameIds new (with_heads i (take (k + 1) heads))
keeps_heads i ids new heads k d l is same j =
    let y = with_head i (get_or heads k d) in
    let before = with_heads i (take k heads) in
    ap (λ xs. has_item id_cmp xs j) is ∙ joins_with id_cmp_total ids y j ∙ ap (λ b. id_eq y j || b) (same j)
    ∙ flip (id_eq y j) (has_item id_cmp before j)
    ∙ ap (λ b. has_item id_cmp before j || b) (sym (or-false (id_eq y j)))
    ∙ sym (ap (λ xs. has_item id_cmp xs j) (map_more (with_head i) heads k d l) ∙ list_any-append (λ z. id_eq z j) before (y ∷ []))
  where
    flip : (a b : Bool) → (a || b) ≡ (b || a)
    flip true true = refl
    flip true false = refl
    flip false true = refl
    flip false false = refl

pub ascends_with : (ids new : List Id) (i : Id) → new ≡ with_item id_cmp ids i → IsTrue (is_ascending id_cmp ids) → IsTrue (is_ascending id_cmp new)
ascends_with ids new i is up = subst (λ xs. IsTrue (is_ascending id_cmp xs)) (sym is) (ascending_with id_cmp_total ids i up)

pub ascends_empty : (ids : List Id) → ids ≡ [] → IsTrue (is_ascending id_cmp ids)
ascends_empty ids is = subst (λ xs. IsTrue (is_ascending id_cmp xs)) (sym is) refl

-- where the entity has no pair of With, none is among its ids
pub none_with : (w : WorldState) (i : Id) (traits : List Id) → Some traits ≡ type_of_entity w (head_of i) → LacksWith w (head_of i)
    → list_any is_with traits ≡ false
none_with w i traits own none =
    not_so (list_any is_with traits) (λ h. let pair = (with_among traits (list_any is_with traits) refl).0 h in
    true≢false (sym (has_listed w (head_of i) (Two WITH pair.0) traits own ∙ pair.1) ∙ none pair.0))

-- ---- all of them

module _ (w : WorldState) (i : Id) (traits : List Id) (own : Some traits ≡ type_of_entity w (head_of i)) (flat : BringNoMore w traits) where
  has_own : (x : Entity) → has w (head_of i) (Two WITH x) ≡ has_item id_cmp traits (Two WITH x)
  has_own x = has_listed w (head_of i) (Two WITH x) traits own

  -- a walk of pairs of With ends after one
  one_step : {x : Entity} → Reaches w WITH (head_of i) x → (x ≡ head_of i) ⊎ IsTrue (has w (head_of i) (Two WITH x))
  one_step (root e) = inl e
  one_step (next {a = a} {b = b} reached edge) =
      elim (one_step reached) as (λ _. (b ≡ head_of i) ⊎ IsTrue (has w (head_of i) (Two WITH b))) [
        | inl e ↦ inr (subst (λ c. IsTrue (has w c (Two WITH b))) e edge)
        | inr h ↦ absurd (true≢false (sym edge ∙ flat a (sym (has_own a) ∙ h) b))
      ]

  given : (j : Id) → IsTrue (list_any (gives i j) traits) → InClosure w i j
  given j h = let m = any_is (gives i j) traits h in from_pair m.0 m.1 (m.2 (λ y. id_eq y m.0) (id_eq_itself m.0))
    where
      from_pair : (pair : Id) → IsTrue (gives i j pair) → IsTrue (has_item id_cmp traits pair) → InClosure w i j
      from_pair (One c) g there = absurd (true≢false (sym g))
      from_pair (Two r x) g there =
          let leads = has_own x ∙ subst (λ q. IsTrue (has_item id_cmp traits (Two q x))) (entity_eq_is r WITH (first (entity_eq r WITH) _ g)) there in
          subst (InClosure w i) (id_eq_is _ j (second (entity_eq r WITH) _ g)) (reach_to_closure w i (next (root refl) leads))

  pub flat_closure : (s : List Id) → HasGiven s i traits → IsTrue (is_ascending id_cmp s) → IsClosure w i s
  flat_closure s has_given up = record {
    ascending = up;
    exact = λ j. (
      λ h. elim (or_parts (id_eq i j) _ (sym (has_given j) ∙ h)) as (λ _. InClosure w i j) [ inl k ↦ root (sym (id_eq_is i j k)) | inr k ↦ given j k ],
      λ h. let m = closure_to_reach w i h in has_given j ∙ elim (one_step m.1) as (λ _. IsTrue (id_eq i j || list_any (gives i j) traits)) [
        | inl e ↦ or_left _ _ (subst (λ k. IsTrue (id_eq i k)) (sym (m.2 ∙ ap (with_head i) e ∙ own_head i)) (id_eq_itself i))
        | inr leads ↦ or_right (id_eq i j) _ (subst (λ k. IsTrue (list_any (gives i k) traits)) (sym m.2)
            (member (gives i (with_head i m.0)) traits (Two WITH m.0) (sym (has_own m.0) ∙ leads)
            (both (entity_eq WITH WITH) _ (entity_eq_itself WITH) (id_eq_itself (with_head i m.0)))))
      ],
    );
  }
