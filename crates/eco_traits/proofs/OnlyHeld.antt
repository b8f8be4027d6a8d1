-- Who is named by one id of one other entity dies alone, and that id goes.
use Rattle.eco_traits.proofs.CleanupCommon.{◌≡◌, ℕ, ◌+◌, Bool, true, false, true≢false, cond, not, ◌⊎◌, List, [], ◌∷◌, filter, slice_get}
use Rattle.eco_traits.proofs.CleanupCommon.{same_tests, slice_set, Option, Some, None, option_map, is_some, unwrap_or, IsTrue, refl, sym, ap, ◌∙◌, subst, inl}
use Rattle.eco_traits.proofs.CleanupCommon.{inr, arith, is_sorted, or-false, false_from_ne_true, same_Some, Entity, DELETE, PANIC, Id, after_delete, Forbids}
use Rattle.eco_traits.proofs.CleanupCommon.{HoldsOn, IsDoomed, names_any, Indexed, IndexState, Retired, Free, Living, change_kept, changed, is_alive, map_from}
use Rattle.eco_traits.proofs.CleanupCommon.{raised, record_of, with_death, root, keeping, left_at, without, entity_cmp, entity_eq, has_item, id_cmp, id_eq}
use Rattle.eco_traits.proofs.CleanupCommon.{names_entity, with_item, without_item, Record, WorldState, has, zeros, sorted_is, keys_find, id_eq_is, id_eq_itself}
use Rattle.eco_traits.proofs.CleanupCommon.{or_left, or_right, to_T, entry_of, has_in, some_of, keeps_all, record_ids, with_toggled, with_type, world_of, names_on}
use Rattle.eco_ids.proofs.AtPlaces.{get_left, same_number, same_places}
use Rattle.eco_ids.proofs.Lists.{slice_get-set_other, slice_get-set_there}
use Rattle.eco_ids.proofs.Meaning.{least}
use Rattle.eco_ids.proofs.States.{living_at, record_at, same_parts}
use Rattle.eco_traits.specs.OnlyHolders.{IsOnlyHolder}
use Rattle.eco_traits.specs.declared.only_holder.OnlyHolder.{OnlyHolder}
use Rattle.eco_traits.proofs.Deaths.{one_is, one_itself}
use Rattle.eco_traits.proofs.Planned.{named_alike, named_some, some_named}
use Rattle.eco_traits.proofs.Roles.{names_on_exact, names_on_names, tested}
use Rattle.eco_traits.proofs.TakenOut.{retyped_part}
use Rattle.eco_ids.proofs.Facts.{entity_eq_sym}

-- ---- lists

-- tests that agree on the ids of a list
filtered_alike : (p q : Id → Bool) (ids : List Id) → ((j : Id) → IsTrue (has_item id_cmp ids j) → p j ≡ q j) → filter p ids ≡ filter q ids
filtered_alike p q [] same = refl
filtered_alike p q (j ∷ ids) same =
    let here = same j (or_left (id_eq j j) (has_item id_cmp ids j) (id_eq_itself j)) in
    let rest = filtered_alike p q ids (λ k there. same k (or_right (id_eq j k) (has_item id_cmp ids k) there)) in
    λ t. cond (here t) (j ∷ rest t) (rest t)

abbrev generation_of : IndexState Record → ℕ
generation_of Retired = 0
generation_of (Free g) = g
generation_of (Living g r) = g

module _ (v : Indexed Record) (o : OnlyHolder) (only : IsOnlyHolder v o) where
  abbrev w : WorldState
  w = world_of v

  abbrev one : List Entity
  one = o.member ∷ []

  -- ---- who is doomed

  -- whoever holds the member under a policy does it by that id
  by_that : (action m h : Entity) → IsTrue (has_item entity_cmp one m) → HoldsOn w action m h → IsTrue (names_on w action o.member o.id)
  by_that action m h among holds =
      let same : o.member ≡ m = one_is o.member m among in
      let on : IsTrue (names_on w action o.member holds.0) =
      subst (λ x. IsTrue (names_on w action x holds.0)) (sym same) ((names_on_exact w action m holds.0).1 holds.2) in
      let that = only.only h holds.0 holds.1 (names_on_names w action o.member holds.0 on) in
      subst (λ i. IsTrue (names_on w action o.member i)) that.1 on

  -- it alone
  pub doomed_one : (members : List Entity) → IsDoomed w (λ x. IsTrue (has_item entity_cmp one x)) members
      → (e : Entity) → has_item entity_cmp one e ≡ has_item entity_cmp members e
  doomed_one members list e = same_tests (has_item entity_cmp one e) (has_item entity_cmp members e) (λ h. (list.exact e).1 (root h))
      (λ h. least (λ y. IsTrue (has_item entity_cmp one y)) (λ y there. there)
      (λ a b there holds. absurd (true≢false (sym (by_that DELETE a b there holds) ∙ only.stays))) ((list.exact e).0 h))

  -- and nobody forbids it
  pub none_forbids : (members : List Entity) → IsDoomed w (λ x. IsTrue (has_item entity_cmp one x)) members
      → (h m : Entity) → Forbids w members h m → ⊥
  none_forbids members list h m f = true≢false (sym (by_that PANIC m h (doomed_one members list m ∙ f.2) f.3) ∙ only.allowed)

  -- whatever lists it
  pub listed_one : (members : List Entity) → IsDoomed w (λ x. IsTrue (has_item entity_cmp one x)) members → after_delete w one ≡ after_delete w members
  listed_one members list =
      let same = doomed_one members list in
      λ t. without w (λ e. same e t) (λ e i. named_alike one members same i t)

  -- ---- what the holder loses

  itself : (r : Record) × (record_of v o.holder ≡ Some r)
  itself = let own = entry_of (record_of v o.holder) o.id only.there in (own.0, own.2)

  pub holder_lives : IsTrue (is_alive v o.holder)
  holder_lives = ap is_some itself.1

  names_one : (j : Id) → names_any one j ≡ names_entity j o.member
  names_one j = same_tests (names_any one j) (names_entity j o.member)
      (λ h. let m = named_some one j h in subst (λ x. IsTrue (names_entity j x)) (sym (one_is o.member m.0 m.1)) m.2)
      (λ h. some_named one o.member j (one_itself o.member) h)

  had : (j : Id) → IsTrue (has_item id_cmp (record_ids itself.0) j) → IsTrue (has w o.holder j)
  had j there = ap (λ x. has_in x j) itself.1 ∙ keys_find itself.0.held j ∙ there

  -- exactly that id goes
  goes_there : (j : Id) → IsTrue (has_item id_cmp (record_ids itself.0) j) → not (id_eq j o.id) ≡ not (names_any one j)
  goes_there j there = ap not (same_tests (id_eq j o.id) (names_any one j)
      (λ h. names_one j ∙ subst (λ i. IsTrue (names_entity i o.member)) (sym (id_eq_is j o.id h)) only.names)
      (λ h. subst (λ i. IsTrue (id_eq j i)) (only.only o.holder j (had j there) (sym (names_one j) ∙ h)).1 (id_eq_itself j)))

  has_that : has_item id_cmp (record_ids itself.0) o.id ≡ true
  has_that = sym (keys_find itself.0.held o.id) ∙ sym (ap (λ x. has_in x o.id) itself.1) ∙ only.there

  lost : with_toggled o.id itself.0 ≡ keeping (names_any one) itself.0
  lost =
      let r = itself.0 in
      let ids = record_ids r in
      ap (λ b. with_type (cond b (without_item id_cmp ids o.id) (with_item id_cmp ids o.id)) r) has_that
      ∙ ap (λ js. with_type js r) (filtered_alike (λ j. not (id_eq j o.id)) (λ j. not (names_any one j)) ids goes_there)
      ∙ ap (λ held. record r { held = held })
      (retyped_part (λ j. not (names_any one j)) r.held r.held (to_T (is_sorted id_cmp r.held) (sorted_is r.held ∙ only.ascends r itself.1))
      (λ i x found. ap (λ y. unwrap_or y zeros) found))

  -- ---- the others

  abbrev left : ℕ → IndexState Record → IndexState Record
  left = left_at (has_item entity_cmp one) (λ e i. names_any one i)

  kept : (k g : ℕ) (d : Record) → slice_get v.indices k ≡ Some (Living g d) → (k ≡ o.holder.index → ⊥) → keeping (names_any one) d ≡ d
  kept k g d at other = keeps_all (names_any one) d (λ i there. false_from_ne_true (names_any one i) (λ names.
      other (ap (λ (x : Entity). x.index) (only.only who i (ap (λ x. has_in x i) (record_at v who d at) ∙ there) (sym (names_one i) ∙ names)).0)))
    where
      who : Entity
      who = record { index = k; generation = g }

  others_left : (k : ℕ) (x : Option (IndexState Record)) → (k ≡ o.member.index → ⊥) → (k ≡ o.holder.index → ⊥) → slice_get v.indices k ≡ x
      → option_map (left k) x ≡ x
  others_left k None apart other at = refl
  others_left k (Some Retired) apart other at = refl
  others_left k (Some (Free g)) apart other at = refl
  others_left k (Some (Living g d)) apart other at = by (has_item entity_cmp one (record { index = k; generation = g })) refl
    where
      by : (b : Bool) → has_item entity_cmp one (record { index = k; generation = g }) ≡ b
          → Some (cond b (raised g) (Living g (keeping (names_any one) d))) ≡ Some (Living g d)
      by true is = absurd (apart (ap (λ (x : Entity). x.index) (sym (one_is o.member (record { index = k; generation = g }) is))))
      by false is = ap (λ r. Some (Living g r)) (kept k g d at other)

  -- ---- the world without it

  module _ (alive : IsTrue (is_alive v o.member)) where
    own : (r : Record) × (record_of v o.member ≡ Some r)
    own = some_of (record_of v o.member) alive

    at_member : slice_get v.indices o.member.index ≡ Some (Living o.member.generation own.0)
    at_member = living_at v o.member own.0 own.1

    at_holder : slice_get v.indices o.holder.index ≡ Some (Living o.holder.generation itself.0)
    at_holder = living_at v o.holder itself.0 itself.1

    other_index : o.member.index ≡ o.holder.index → ⊥
    other_index same =
        let states : Living o.holder.generation itself.0 ≡ Living o.member.generation own.0 =
        same_Some (Living o.holder.generation itself.0) (Living o.member.generation own.0)
        (sym at_holder ∙ ap (slice_get v.indices) (sym same) ∙ at_member) in
        true≢false (sym (tested o.holder o.member (same_parts o.holder o.member (sym same) (ap generation_of states))) ∙ only.apart)

    abbrev inner : List (IndexState Record)
    inner = slice_set v.indices o.holder.index (Living o.holder.generation (with_toggled o.id itself.0))

    abbrev outer : List (IndexState Record)
    outer = slice_set inner o.member.index (raised o.member.generation)

    -- the member lives still once the id has gone
    at_inner : slice_get inner o.member.index ≡ Some (Living o.member.generation own.0)
    at_inner =
        slice_get-set_other v.indices o.holder.index o.member.index (Living o.holder.generation (with_toggled o.id itself.0)) other_index ∙ at_member

    changed_at : changed v o.holder (with_toggled o.id) ≡ record v { indices = inner }
    changed_at = ap (change_kept v o.holder (with_toggled o.id)) itself.1

    pub still_alive : (new : Indexed Record) → new ≡ changed v o.holder (with_toggled o.id) → IsTrue (is_alive new o.member)
    still_alive new is =
        subst (λ x. IsTrue (is_alive x o.member)) (sym (is ∙ changed_at))
        (ap is_some (record_at (record v { indices = inner }) o.member own.0 at_inner))

    member_left : left o.member.index (Living o.member.generation own.0) ≡ raised o.member.generation
    member_left =
        ap (λ b. cond b (raised o.member.generation) (Living o.member.generation (keeping (names_any one) own.0))) (one_itself o.member)

    holder_left : left o.holder.index (Living o.holder.generation itself.0) ≡ Living o.holder.generation (with_toggled o.id itself.0)
    holder_left =
        ap (λ b. cond b (raised o.holder.generation) (Living o.holder.generation (keeping (names_any one) itself.0)))
        (or-false (entity_eq o.member o.holder) ∙ entity_eq_sym o.member o.holder ∙ only.apart)
        ∙ ap (Living o.holder.generation) (sym lost)

    same_at : (k : ℕ) → (k ≡ o.member.index) ⊎ (k ≡ o.member.index → ⊥) → (k ≡ o.holder.index) ⊎ (k ≡ o.holder.index → ⊥)
        → slice_get outer k ≡ option_map (left k) (slice_get v.indices k)
    same_at k (inl is) any =
        subst (λ j. slice_get outer j ≡ option_map (left j) (slice_get v.indices j)) (sym is)
        (slice_get-set_there inner o.member.index (raised o.member.generation) (Living o.member.generation own.0) at_inner
        ∙ sym (ap (option_map (left o.member.index)) at_member ∙ ap Some member_left))
    same_at k (inr apart) (inl is) =
        subst (λ j. slice_get outer j ≡ option_map (left j) (slice_get v.indices j)) (sym is)
        (slice_get-set_other inner o.member.index o.holder.index (raised o.member.generation) (λ e. other_index (sym e))
        ∙ slice_get-set_there v.indices o.holder.index (Living o.holder.generation (with_toggled o.id itself.0))
        (Living o.holder.generation itself.0) at_holder
        ∙ sym (ap (option_map (left o.holder.index)) at_holder ∙ ap Some holder_left))
    same_at k (inr apart) (inr other) =
        slice_get-set_other inner o.member.index k (raised o.member.generation) apart
        ∙ slice_get-set_other v.indices o.holder.index k (Living o.holder.generation (with_toggled o.id itself.0)) other
        ∙ sym (others_left k (slice_get v.indices k) apart other refl)

    same : (k : ℕ) → slice_get outer k ≡ slice_get (map_from left 0 v.indices) k
    same k =
        let own_place : 0 + k ≡ k = omega arith in
        same_at k (same_number k o.member.index) (same_number k o.holder.index)
        ∙ sym (get_left left 0 v.indices k ∙ ap (λ n. option_map (left n) (slice_get v.indices k)) own_place)

    -- once the id has gone and the member died
    pub taken_from : (new last : Indexed Record) → new ≡ changed v o.holder (with_toggled o.id) → last ≡ with_death new o.member
        → world_of last ≡ after_delete w one
    taken_from new last is dead =
        ap world_of (dead ∙ ap (λ x. with_death x o.member) (is ∙ changed_at))
        ∙ ap (λ xs. record w { indices = xs }) (same_places outer (map_from left 0 v.indices) same)
