-- Mirrors as moves of a store.
use Rattle.eco_world.proofs.Common.{◌≡◌, Bool, true, false, cond, not, ◌⊎◌, inl, inr, T, List, [], ◌∷◌, map, filter, fold, Option, Some, None}
use Rattle.eco_world.proofs.Common.{unwrap_or, is_some, IsTrue, IsFalse, refl, sym, ap, ◌∙◌, subst, true≢false, MatchOption, false_from_ne_true}
use Rattle.eco_world.proofs.Common.{same_Some, none-some, find, put, where_key, is_sorted, is_sorted-where_key, find-where_key, option_or, Edition, Entity, Id}
use Rattle.eco_world.proofs.Common.{Two, Value, Indexed, change_kept, IsLawful, keeping, nobody, without, mirror_of, entity_eq, has_item, id_cmp, id_eq}
use Rattle.eco_world.proofs.Common.{with_item, changed, with_id, with_mirror, with_zeros, Record, WorldState, entities, record_of, with_entities, zeros}
use Rattle.eco_world.proofs.Common.{zero_sorted, keys_find, keys_kept, keys_zeros, zero_find, not_both, same_or_apart, keeps_all, mirror_parts}
use Rattle.eco_world.proofs.Common.{entity_eq_itself, changed_apart, write_change, with_type, retyped, IsAlone, one_by_one, QueryTerm, type_of, world_with}
use Rattle.eco_store.specs.declared.moving.Move.{Move}
use Rattle.eco_store.specs.Moving.{after_move, after_moves}
use Rattle.eco_world.proofs.Changes.{changed_alike, changed_same, held_at, sorted_at}
use Rattle.eco_world.proofs.Held.{Held, alike, keys, kept_find, retyped_is}

-- ---- an id that comes is its own mirror, or has none

-- where nobody has the mirror, nobody else has it
pub unmirrored : (w : WorldState) (e : Entity) (i : Id) → mirror_of w e i ≡ None → IsAlone w e i
unmirrored w e i none m is = absurd (none-some m (sym none ∙ is))

-- what a search for another's mirror says where it finds none, and where it finds one
abbrev Sought : WorldState → Entity → Id → Option (Entity × Id) → Type 0
Sought w e i o = MatchOption o (IsAlone w e i) (λ m. (mirror_of w e i ≡ Some m) × (entity_eq m.0 e ≡ false))

pub lone : (w : WorldState) (e : Entity) (i : Id) (o : Option (Entity × Id)) → o ≡ None → Sought w e i o → IsAlone w e i
lone w e i o none = subst (Sought w e i) none

pub another : (w : WorldState) (e : Entity) (i : Id) (o : Option (Entity × Id)) (m : Entity × Id) → o ≡ Some m → Sought w e i o
    → (mirror_of w e i ≡ Some m) × (entity_eq m.0 e ≡ false)
another w e i o m some = subst (Sought w e i) some

pub other : (w : WorldState) (e : Entity) (i : Id) (o : Option (Entity × Id)) (m : Entity × Id) → o ≡ Some m → Sought w e i o
    → mirror_of w e i ≡ Some m
other w e i o m some sought = (another w e i o m some sought).0

keys_retyped : (ids : List Id) (held : Held) → keys (retyped ids held) ≡ ids
keys_retyped [] held = refl
keys_retyped (i ∷ ids) held = ap (λ js. i ∷ js) (keys_retyped ids held)

id_there : (i : Id) (d : Record) → IsTrue (is_some (find id_cmp i d.held)) → with_id i d ≡ d
id_there i d h = ap (λ b. record d { held = cond b d.held (put id_cmp i zeros d.held) }) h

-- the entity has the ids of the type
typed_there : (ids : List Id) (i : Id) (d : Record) → IsTrue (has_item id_cmp ids i) → IsTrue (is_some (find id_cmp i (with_type ids d).held))
typed_there ids i d own = keys_find (retyped ids d.held) i ∙ ap (λ js. has_item id_cmp js i) (keys_retyped ids d.held) ∙ own

pub alone_typed : (w : WorldState) (e : Entity) (i : Id) (ids : List Id) (d : Record) → record_of w e ≡ Some d → IsAlone w e i
    → IsTrue (has_item id_cmp ids i)
    → with_mirror (changed w e (with_type ids)) (mirror_of w e i) ≡ changed w e (with_type ids)
alone_typed w e i ids d at alone own = by (mirror_of w e i) refl
  where
    typed : WorldState
    typed = changed w e (with_type ids)

    itself : (m : Entity × Id) → mirror_of w e i ≡ Some m → m.1 ≡ i
    itself m is =
        let p = mirror_parts w e i m is in
        let holder : p.1 ≡ e = sym (ap (λ (x : Entity × Id). x.0) p.4) ∙ alone m is in
        ap (λ (x : Entity × Id). x.1) p.4 ∙ ap (Two p.0) (sym holder) ∙ sym p.2

    stays : (r : Record) → record_of typed e ≡ Some r → with_id i r ≡ r
    stays r there = id_there i r (subst (λ (x : Record). IsTrue (is_some (find id_cmp i x.held)))
        (same_Some (with_type ids d) r (sym (write_change w e (with_type ids) d at).at ∙ there)) (typed_there ids i d own))

    by : (o : Option (Entity × Id)) → mirror_of w e i ≡ o → with_mirror typed (mirror_of w e i) ≡ typed
    by None is = ap (with_mirror typed) is
    by (Some m) is =
        ap (with_mirror typed) is
        ∙ (λ t. changed typed (alone m is t) (with_id (itself m is t)))
        ∙ changed_same typed e (with_id i) stays

-- ---- another entity gets the mirror

pub apart : (x e : Entity) → entity_eq x e ≡ false → x ≡ e → ⊥
apart x e other is = not_both (subst (λ y. IsTrue (entity_eq y e)) (sym is) (entity_eq_itself e)) other

pub left_value : (old : Option Value) (replaced there : Bool) (v : Value) → (replaced ≡ true → there ≡ false) →
    option_or (cond (not replaced) old None) (cond there (Some zeros) None) ≡ Some v → unwrap_or old zeros ≡ v
left_value (Some u) false there v absent e = same_Some u v e
left_value None false true v absent e = same_Some zeros v e
left_value None false false v absent e = absurd (none-some v e)
left_value old true true v absent e = absurd (true≢false (absent refl))
left_value old true false v absent e = absurd (none-some v e)

-- an id more, with zeros where it wasn't there
more_typed : (m : Id) (d : Record) → T (is_sorted id_cmp d.held) → with_type (with_item id_cmp (keys d.held) m) d ≡ with_id m d
more_typed m d up =
    ap (λ held. record d { held = held })
    (ap (λ ids. retyped ids d.held) (sym (keys_zeros (m ∷ []) d.held up))
    ∙ retyped_is (with_zeros d.held m) d.held (zero_sorted d.held m up)
    (λ j v at. left_value (find id_cmp j d.held) false (id_eq m j) v (λ h. absurd (true≢false (sym h))) (sym (zero_find d.held m j) ∙ at)))

pub both_typed : (w : WorldState) (e : Entity) (ids : List Id) (h : Entity) (m : Id) → IsLawful w → (h ≡ e → ⊥) →
    changed (changed w e (with_type ids)) h (with_type (with_item id_cmp (type_of w h) m)) ≡ with_mirror (changed w e (with_type ids)) (Some (h, m))
both_typed w e ids h m lawful other =
    changed_alike (changed w e (with_type ids)) h (with_type (with_item id_cmp (type_of w h) m)) (with_id m) (λ d at.
    let was : record_of w h ≡ Some d = sym (changed_apart w e (with_type ids) h other) ∙ at in
    ap (λ held. with_type (with_item id_cmp (keys held) m) d) (held_at w h d was) ∙ more_typed m d (sorted_at w h lawful d was))

-- ---- entities keep what doesn't go

module _ (goes : Id → Bool) (d : Record) (up : T (is_sorted id_cmp d.held)) where
  abbrev kept : Held
  kept = where_key id_cmp (λ j. not (goes j)) d.held

  kept_sorted : T (is_sorted id_cmp kept)
  kept_sorted = is_sorted-where_key id_cmp (λ j. not (goes j)) d.held up

  -- the first time
  kept_typed : with_type (filter (λ j. not (goes j)) (keys d.held)) d ≡ keeping goes d
  kept_typed =
      ap (λ held. record d { held = held })
      (ap (λ ids. retyped ids d.held) (sym (keys_kept (λ j. not (goes j)) d.held))
      ∙ retyped_is kept d.held kept_sorted (λ j v at. ap (λ o. unwrap_or o zeros) (kept_find (λ k. not (goes k)) d.held j v at)))

  stayed : (j : Id) → IsTrue (is_some (find id_cmp j kept)) → IsFalse (goes j)
  stayed j there = false_from_ne_true (goes j) (λ h. true≢false (sym there
      ∙ ap is_some (find-where_key id_cmp (λ k. not (goes k)) j (alike (λ k. not (goes k)) j) d.held)
      ∙ ap (λ b. is_some (cond (not b) (find id_cmp j d.held) None)) h))

  -- and again
  kept_again : with_type (filter (λ j. not (goes j)) (keys d.held)) (keeping goes d) ≡ keeping goes (keeping goes d)
  kept_again =
      ap (λ held. record d { held = held })
      (ap (λ ids. retyped ids kept) (sym (keys_kept (λ j. not (goes j)) d.held))
      ∙ retyped_is kept kept kept_sorted (λ j v at. ap (λ o. unwrap_or o zeros) at))
      ∙ sym (keeps_all goes (keeping goes d) stayed)

-- each record is as it was, or has lost what goes
record IsBetween (w : WorldState) (g : Entity → Id → Bool) (v : WorldState) : Type 0 where
  pub of : (x : Entity) (r : Record) → record_of v x ≡ Some r → (d : Record) × (record_of w x ≡ Some d) × ((r ≡ d) ⊎ (r ≡ keeping (g x) d))

-- the entity goes to the type of what it keeps
abbrev pub move_to_kept : WorldState → (Entity → Id → Bool) → Entity → Move
move_to_kept w g e = record { entity = e; type_list = filter (λ j. not (g e j)) (type_of w e) }

module _ (w : WorldState) (g : Entity → Id → Bool) (lawful : IsLawful w) where
  -- one more loses what goes
  kept_by : (v : WorldState) → IsBetween w g v → (e : Entity) →
      changed v e (with_type (filter (λ j. not (g e j)) (type_of w e))) ≡ changed v e (keeping (g e))
  kept_by v between e =
      changed_alike v e (with_type (filter (λ j. not (g e j)) (type_of w e))) (keeping (g e)) (λ r at.
      let b = between.of e r at in
      let up = sorted_at w e lawful b.0 b.1 in
      ap (λ held. with_type (filter (λ j. not (g e j)) (keys held)) r) (held_at w e b.0 b.1)
      ∙ elim b.2 as (λ _. with_type (filter (λ j. not (g e j)) (keys (b.0).held)) r ≡ keeping (g e) r) [
        | inl same ↦ subst (λ x. with_type (filter (λ j. not (g e j)) (keys (b.0).held)) x ≡ keeping (g e) x) (sym same) (kept_typed (g e) b.0 up)
        | inr lost ↦ subst (λ x. with_type (filter (λ j. not (g e j)) (keys (b.0).held)) x ≡ keeping (g e) x) (sym lost) (kept_again (g e) b.0 up)
      ])

  twice : (e : Entity) (d : Record) → T (is_sorted id_cmp d.held) → keeping (g e) (keeping (g e) d) ≡ keeping (g e) d
  twice e d up = keeps_all (g e) (keeping (g e) d) (stayed (g e) d up)

  still_between : (v : WorldState) → IsBetween w g v → (e : Entity) → IsBetween w g (changed v e (keeping (g e)))
  still_between v between e = record {
    of = λ x r at. elim (same_or_apart x e) as (λ _.
        (d : Record) × (record_of w x ≡ Some d) × ((r ≡ d) ⊎ (r ≡ keeping (g x) d))) [
          | inr n ↦ between.of x r (sym (changed_apart v e (keeping (g e)) x n) ∙ at)
          | inl k ↦ subst (λ y. (d : Record) × (record_of w y ≡ Some d) × ((r ≡ d) ⊎ (r ≡ keeping (g y) d))) (sym k)
              (here r (subst (λ y. record_of (changed v e (keeping (g e))) y ≡ Some r) k at) (record_of v e) refl)
        ];
  }
    where
      here : (r : Record) → record_of (changed v e (keeping (g e))) e ≡ Some r → (o : Option Record) → record_of v e ≡ o →
          (d : Record) × (record_of w e ≡ Some d) × ((r ≡ d) ⊎ (r ≡ keeping (g e) d))
      here r at None is =
          absurd (none-some r (sym (ap (λ o. record_of (with_entities v (change_kept (entities v) e (keeping (g e)) o)) e) is ∙ is) ∙ at))
      here r at (Some q) is =
          let b = between.of e q is in
          let now : keeping (g e) q ≡ r = same_Some (keeping (g e) q) r (sym (write_change v e (keeping (g e)) q is).at ∙ at) in
          let up = sorted_at w e lawful b.0 b.1 in (
            b.0,
            b.1,
            inr (sym now ∙ elim b.2 as (λ _. keeping (g e) q ≡ keeping (g e) b.0) [
              | inl same ↦ ap (keeping (g e)) same
              | inr lost ↦ ap (keeping (g e)) lost ∙ twice e b.0 up
            ]),
          )

  moved : (v : WorldState) → IsBetween w g v → (es : List Entity) →
      with_entities v (fold after_move (entities v) (map (move_to_kept w g) es)) ≡ one_by_one g v es
  moved v between [] = refl
  moved v between (e ∷ es) =
      ap (λ u. with_entities u (fold after_move (entities u) (map (move_to_kept w g) es))) (kept_by v between e)
      ∙ moved (changed v e (keeping (g e))) (still_between v between e) es

  -- moves to what is kept are losses, one after another
  pub moves_lose : (es : List Entity) → with_entities w (fold after_move (entities w) (map (move_to_kept w g) es)) ≡ one_by_one g w es
  moves_lose es = moved w (record { of = λ x r at. (r, at, inl refl) }) es

-- ---- the same of a store, seen as a world

module _ (edition : Edition) (v : Indexed Record) (qs : List (List QueryTerm)) (w : WorldState) (lawful : IsLawful w) (seen : world_with edition v qs ≡ w)
    (ms : List Move) where
  moved_world : (new : WorldState) → with_entities w (fold after_move (entities w) ms) ≡ new → world_with edition (after_moves v ms) qs ≡ new
  moved_world new is = ap (λ x. with_entities x (fold after_move (entities x) ms)) seen ∙ is

  pub both_moved : (e : Entity) (ids : List Id) (m : Entity × Id) → (m.0 ≡ e → ⊥)
      → ms ≡ record { entity = e; type_list = ids } ∷ record { entity = m.0; type_list = with_item id_cmp (type_of w m.0) m.1 } ∷ []
      → world_with edition (after_moves v ms) qs ≡ with_mirror (changed w e (with_type ids)) (Some m)
  both_moved e ids m other are = moved_world (with_mirror (changed w e (with_type ids)) (Some m))
      (ap (λ xs. with_entities w (fold after_move (entities w) xs)) are ∙ both_typed w e ids m.0 m.1 lawful other)

  pub lost_all : (g : Entity → Id → Bool) (es : List Entity) → ms ≡ map (move_to_kept w g) es → without w nobody g ≡ one_by_one g w es
      → world_with edition (after_moves v ms) qs ≡ without w nobody g
  lost_all g es are lost = moved_world (without w nobody g)
      (ap (λ xs. with_entities w (fold after_move (entities w) xs)) are ∙ moves_lose w g lawful es ∙ sym lost)
