-- An entity that no id names dies alone.
use Rattle.eco_world.proofs.Common.{◌≡◌, ℕ, ◌+◌, Bool, true, false, true≢false, cond, ◌||◌, ◌⊎◌, List, [], ◌∷◌, map, slice_get}
use Rattle.eco_world.proofs.Common.{slice_set, Option, Some, None, option_map, is_some, IsTrue, Ok, refl, sym, ap, ◌∙◌, subst, inl, inr, arith}
use Rattle.eco_world.proofs.Common.{false_from_ne_true, list_any, Edition, Entity, DELETE, PANIC, Id, One, Two, is_builtin, after_delete, Forbids, HoldsOn}
use Rattle.eco_world.proofs.Common.{IsDoomed, Names, names_any, DeletesOne, Indexed, IndexState, Retired, Free, Living, map_from, raised, with_death, root}
use Rattle.eco_world.proofs.Common.{keeping, left_at, entity_cmp, entity_eq, has_item, id_eq, names_entity, Record, WorldState, entities, has, is_alive, living}
use Rattle.eco_world.proofs.Common.{record_of, with_entities, keys_find, any_is, id_eq_is, or_left, or_parts, or_right, entry_of, has_in, some_of, keeps_all}
use Rattle.eco_world.proofs.Common.{least, entity_eq_itself, passes_some, living_at, record_at, QueryTerm, world_with}
use Rattle.eco_ids.proofs.AtPlaces.{get_left, same_number, same_places}
use Rattle.eco_ids.proofs.Lists.{slice_get-set_other, slice_get-set_there}
use Rattle.eco_world.proofs.Deleting.{only}

-- an id of the record names the entity
abbrev names_it : Entity → Record → Bool
names_it e r = list_any (λ i. names_entity i e) (map (λ p. p.0) r.held)

-- of some living entity
abbrev pub is_named : WorldState → Entity → Bool
is_named w e = list_any (λ (p : Entity × Record). names_it e p.1) (living w)

same_named : (x e : Entity) → x ≡ e → IsTrue (entity_eq x e)
same_named x e is = subst (λ y. IsTrue (entity_eq y e)) (sym is) (entity_eq_itself e)

-- the one member is named in no other way
named_alone : (e : Entity) (i : Id) → IsTrue (names_any (e ∷ []) i) → IsTrue (names_entity i e)
named_alone e (One x) h = same_named x e ((only e x).0 h)
named_alone e (Two r t) h =
    elim (or_parts (has_item entity_cmp (e ∷ []) r) _ h) as (λ _. IsTrue (entity_eq r e || entity_eq t e)) [
      | inl k ↦ or_left _ _ (same_named r e ((only e r).0 k))
      | inr k ↦ or_right (entity_eq r e) _ (same_named t e ((only e t).0 k))
    ]

-- who has a policy for the member names it
named_on : (w : WorldState) (action : Entity) (i : Id) (m : Entity) → Names w action i m → IsTrue (names_entity i m)
named_on w action (One x) m n = same_named x m n.0
named_on w action (Two r t) m n = elim n as (λ _. IsTrue (entity_eq r m || entity_eq t m)) [
  | inl k ↦ or_left _ _ (same_named r m k.0)
  | inr k ↦ or_right (entity_eq r m) _ (same_named t m k.0)
]

-- ---- one index changes

module _ (w : WorldState) (e : Entity) (lives : is_alive w e ≡ true)
    (unheld : is_named w e ≡ false) where
  -- no id names it
  unnamed : (h : Entity) (i : Id) → IsTrue (has w h i) → IsTrue (names_entity i e) → ⊥
  unnamed h i there names =
      let own = entry_of (record_of w h) i there in
      let r = own.0 in
      let listed = any_is (λ j. id_eq j i) (map (λ p. p.0) r.held) (sym (keys_find r.held i) ∙ ap is_some own.3) in
      let named : IsTrue (names_it e r) =
      listed.2 (λ j. names_entity j e) (subst (λ j. IsTrue (names_entity j e)) (sym (id_eq_is listed.0 i listed.1)) names) in
      true≢false (sym (passes_some (names_it e) (entities w) h (r, own.2, named)) ∙ unheld)

  -- so nobody holds it under a policy
  no_holder : (action m h : Entity) → m ≡ e → HoldsOn w action m h → ⊥
  no_holder action m h is holds =
      unnamed h holds.0 holds.1 (subst (λ x. IsTrue (names_entity holds.0 x)) is (named_on w action holds.0 m holds.2))

  -- it alone is doomed
  doomed_alone : IsDoomed w (λ x. x ≡ e) (e ∷ [])
  doomed_alone = record {
    ascending = refl;
    exact = λ x. (
      λ h. root ((only e x).0 h),
      λ d. least (λ y. IsTrue (has_item entity_cmp (e ∷ []) y)) (λ y is. (only e y).1 is)
          (λ m h member holds. absurd (no_holder DELETE m h ((only e m).0 member) holds)) d,
    );
  }

  -- and nobody forbids it
  none_forbids : (h m : Entity) → Forbids w (e ∷ []) h m → ⊥
  none_forbids h m f = no_holder PANIC m h ((only e m).0 f.2) f.3

  -- the others keep all their ids
  kept : (k g : ℕ) (d : Record) → slice_get w.indices k ≡ Some (Living g d) → keeping (names_any (e ∷ [])) d ≡ d
  kept k g d at = keeps_all (names_any (e ∷ [])) d (λ i there. false_from_ne_true (names_any (e ∷ []) i) (λ names.
      unnamed holder i (ap (λ o. has_in o i) (record_at (entities w) holder d at) ∙ there) (named_alone e i names)))
    where
      holder : Entity
      holder = record { index = k; generation = g }

  abbrev left : ℕ → IndexState Record → IndexState Record
  left = left_at (has_item entity_cmp (e ∷ [])) (λ x i. names_any (e ∷ []) i)

  others_left : (k : ℕ) (o : Option (IndexState Record)) → (k ≡ e.index → ⊥) → slice_get w.indices k ≡ o → option_map (left k) o ≡ o
  others_left k None other at = refl
  others_left k (Some Retired) other at = refl
  others_left k (Some (Free g)) other at = refl
  others_left k (Some (Living g d)) other at = by (has_item entity_cmp (e ∷ []) (record { index = k; generation = g })) refl
    where
      by : (b : Bool) → has_item entity_cmp (e ∷ []) (record { index = k; generation = g }) ≡ b
          → Some (cond b (raised g) (Living g (keeping (names_any (e ∷ [])) d))) ≡ Some (Living g d)
      by true is = absurd (other (ap (λ (x : Entity). x.index) ((only e (record { index = k; generation = g })).0 is)))
      by false is = ap (λ r. Some (Living g r)) (kept k g d at)

  own_left : (r : Record) → left e.index (Living e.generation r) ≡ raised e.generation
  own_left r = ap (λ b. cond b (raised e.generation) (Living e.generation (keeping (names_any (e ∷ [])) r))) ((only e e).1 refl)

  -- the world once it is dead
  after_alone : after_delete w (e ∷ []) ≡ with_entities w (with_death (entities w) e)
  after_alone = ap (λ xs. record w { indices = xs }) (same_places _ _ same)
    where
      own : (r : Record) × (record_of w e ≡ Some r)
      own = some_of (record_of w e) lives

      at_own : slice_get w.indices e.index ≡ Some (Living e.generation own.0)
      at_own = living_at (entities w) e own.0 own.1

      same_at : (k : ℕ) → (k ≡ e.index) ⊎ (k ≡ e.index → ⊥)
          → option_map (left k) (slice_get w.indices k) ≡ slice_get (slice_set w.indices e.index (raised e.generation)) k
      same_at k (inl is) =
          subst (λ j. option_map (left j) (slice_get w.indices j) ≡ slice_get (slice_set w.indices e.index (raised e.generation)) j) (sym is)
          (ap (option_map (left e.index)) at_own ∙ ap Some (own_left own.0)
          ∙ sym (slice_get-set_there w.indices e.index (raised e.generation) (Living e.generation own.0) at_own))
      same_at k (inr other) = others_left k (slice_get w.indices k) other refl
          ∙ sym (slice_get-set_other w.indices e.index k (raised e.generation) other)

      same : (k : ℕ) → slice_get (map_from left 0 w.indices) k ≡ slice_get (slice_set w.indices e.index (raised e.generation)) k
      same k =
          let own_place : 0 + k ≡ k = omega arith in
          get_left left 0 w.indices k ∙ ap (λ n. option_map (left n) (slice_get w.indices k)) own_place ∙ same_at k (same_number k e.index)

  -- its death is its delete
  deleted_alone : is_builtin w e ≡ false → DeletesOne w e (Ok tt) (with_entities w (with_death (entities w) e))
  deleted_alone ordinary = rw (lives, ordinary) (e ∷ [], doomed_alone, (sym after_alone, none_forbids))

-- so the world of a store that took it out is the one without it
pub taken_out : (edition : Edition) (v new : Indexed Record) (qs : List (List QueryTerm)) (e : Entity) → is_alive (world_with edition v qs) e ≡ true
    → is_builtin (world_with edition v qs) e ≡ false → is_named (world_with edition v qs) e ≡ false → new ≡ with_death v e
    → DeletesOne (world_with edition v qs) e (Ok tt) (world_with edition new qs)
taken_out edition v new qs e lives ordinary unheld is =
    subst (λ x. DeletesOne (world_with edition v qs) e (Ok tt) (world_with edition x qs)) (sym is)
    (deleted_alone (world_with edition v qs) e lives unheld ordinary)
