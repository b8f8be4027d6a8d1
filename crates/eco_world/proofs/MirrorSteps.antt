-- A pair of a symmetric relationship comes to both of its entities, or goes from both, by a step of each.
use Rattle.eco_world.proofs.Common.{◌≡◌, Bool, true, false, cond, Option, Some, None, IsTrue, refl, sym, ap, ◌∙◌, subst, true≢false, inl}
use Rattle.eco_world.proofs.Common.{same_tests, inr, same_Some, Entity, Id, Two, IsLawful, keeping, nobody, without, at_mirror, goes_too, mirror_of, entity_eq}
use Rattle.eco_world.proofs.Common.{id_cmp, id_eq, with_item, without_item, changed, with_mirror, Record, WorldState, has, is_alive, names_living, record_of}
use Rattle.eco_world.proofs.Common.{both, first, second, id_eq_is, id_eq_itself, not_both, or_left, or_parts, or_right, mirror_is, mirror_parts, entity_eq_is}
use Rattle.eco_world.proofs.Common.{entity_eq_itself, changed_apart, record_ids, with_toggled, with_type, takes_id, type_of}
use Rattle.eco_ids.proofs.Gains.{same_relationship}
use Rattle.eco_world.proofs.Changes.{changed_alike, held_at, lists_at, sorted_at}
use Rattle.eco_world.proofs.Held.{keys, retyped_without}
use Rattle.eco_world.proofs.Losing.{both_taken, mirrored}
use Rattle.eco_world.proofs.Mirroring.{apart, both_typed}

module _ (w : WorldState) (lawful : IsLawful w) (e : Entity) (i : Id) (m : Entity × Id) (is : mirror_of w e i ≡ Some m) (other : entity_eq m.0 e ≡ false) where
  abbrev goes : Entity → Id → Bool
  goes = goes_too w (takes_id e i)

  -- the other entity has the mirror where this one has the id
  has_both : has w m.0 m.1 ≡ has w e i
  has_both =
      let p = mirror_parts w e i m is in
      (λ t. has w (p.4 t).0 (p.4 t).1)
      ∙ same_tests (has w p.1 (Two p.0 e)) (has w e (Two p.0 p.1)) (mirrored w lawful p.0 p.1 e p.3) (mirrored w lawful p.0 e p.1 p.3)
      ∙ ap (has w e) (sym p.2)

  pub holder_lives : has w e i ≡ true → IsTrue (is_alive w m.0)
  holder_lives there =
      let p = mirror_parts w e i m is in
      let names = subst (λ j. IsTrue (names_living w j)) p.2 (lawful.orderly.living e i there) in
      subst (λ x. IsTrue (is_alive w x)) (sym (ap (λ (x : Entity × Id). x.0) p.4)) (second (is_alive w p.0) _ names)

  -- ---- it comes

  comes : (x : Entity) (j : Id) (d : Record) → record_of w x ≡ Some d → has w x j ≡ false
      → with_toggled j d ≡ with_type (with_item id_cmp (type_of w x) j) d
  comes x j d at absent =
      ap (λ ids. with_type ids d)
      (ap (λ b. cond b (without_item id_cmp (record_ids d) j) (with_item id_cmp (record_ids d) j)) (lists_at w x j d at ∙ absent)
      ∙ ap (λ held. with_item id_cmp (keys held) j) (sym (held_at w x d at)))

  abbrev more : Record → Record
  more = with_type (with_item id_cmp (type_of w e) i)

  pub come_both : has w e i ≡ false → changed (changed w e (with_toggled i)) m.0 (with_toggled m.1) ≡ with_mirror (changed w e more) (Some m)
  come_both absent =
      ap (λ v. changed v m.0 (with_toggled m.1)) (changed_alike w e (with_toggled i) more (λ d at. comes e i d at absent))
      ∙ changed_alike (changed w e more) m.0 (with_toggled m.1) (with_type (with_item id_cmp (type_of w m.0) m.1))
      (λ d at. comes m.0 m.1 d (sym (changed_apart w e more m.0 (apart m.0 e other)) ∙ at) (has_both ∙ absent))
      ∙ both_typed w e (with_item id_cmp (type_of w e) i) m.0 m.1 lawful (apart m.0 e other)

  -- ---- it goes

  leaves : (x : Entity) (j : Id) (d : Record) → record_of w x ≡ Some d → has w x j ≡ true → with_toggled j d ≡ keeping (λ k. id_eq k j) d
  leaves x j d at there =
      ap (λ b. with_type (cond b (without_item id_cmp (record_ids d) j) (with_item id_cmp (record_ids d) j)) d) (lists_at w x j d at ∙ there)
      ∙ ap (λ held. record d { held = held }) (retyped_without d.held j (sorted_at w x lawful d at))

  -- it is no mirror of an id of the entity itself
  own_mirror : (j : Id) → IsTrue (at_mirror (takes_id e i) (mirror_of w e j)) → ⊥
  own_mirror j = by (mirror_of w e j) refl
    where
      by : (o : Option (Entity × Id)) → mirror_of w e j ≡ o → IsTrue (at_mirror (takes_id e i) o) → ⊥
      by None at h = true≢false (sym h)
      by (Some k) at h =
          let q = mirror_parts w e j k at in
          let same : i ≡ Two q.0 e = sym (id_eq_is k.1 i (second (entity_eq k.0 e) _ h)) ∙ ap (λ (x : Entity × Id). x.1) q.4 in
          let mirror : m ≡ (e, Two q.0 e) = same_Some m (e, Two q.0 e) (sym is ∙ ap (mirror_of w e) same ∙ mirror_is w e q.0 e q.3) in
          apart m.0 e other (ap (λ (x : Entity × Id). x.0) mirror)

  own_goes : (j : Id) → goes e j ≡ id_eq j i
  own_goes j =
      same_tests (goes e j) (id_eq j i)
      (λ h. elim (or_parts (at_mirror (takes_id e i) (mirror_of w e j)) (takes_id e i e j) h) as (λ _. IsTrue (id_eq j i)) [
        | inl k ↦ absurd (own_mirror j k)
        | inr k ↦ second (entity_eq e e) _ k
      ])
      (λ h. or_right (at_mirror (takes_id e i) (mirror_of w e j)) _ (both (entity_eq e e) (id_eq j i) (entity_eq_itself e) h))

  -- of the other entity's ids it is the mirror of one
  its_mirror : (j : Id) → IsTrue (at_mirror (takes_id e i) (mirror_of w m.0 j)) → IsTrue (id_eq j m.1)
  its_mirror j = by (mirror_of w m.0 j) refl
    where
      by : (o : Option (Entity × Id)) → mirror_of w m.0 j ≡ o → IsTrue (at_mirror (takes_id e i) o) → IsTrue (id_eq j m.1)
      by None at h = absurd (true≢false (sym h))
      by (Some k) at h =
          let p = mirror_parts w e i m is in
          let q = mirror_parts w m.0 j k at in
          let target : q.1 ≡ e = sym (ap (λ (x : Entity × Id). x.0) q.4) ∙ entity_eq_is k.0 e (first (entity_eq k.0 e) _ h) in
          let pair : Two q.0 m.0 ≡ Two p.0 p.1 = sym (ap (λ (x : Entity × Id). x.1) q.4) ∙ id_eq_is k.1 i (second (entity_eq k.0 e) _ h) ∙ p.2 in
          let same : j ≡ m.1 = q.2 ∙ (λ t. Two (same_relationship pair t) (target t)) ∙ sym (ap (λ (x : Entity × Id). x.1) p.4) in
          subst (λ x. IsTrue (id_eq x m.1)) (sym same) (id_eq_itself m.1)

  mirror_goes : IsTrue (at_mirror (takes_id e i) (mirror_of w m.0 m.1))
  mirror_goes =
      let p = mirror_parts w e i m is in
      let back : mirror_of w p.1 (Two p.0 e) ≡ Some (e, Two p.0 p.1) = mirror_is w p.1 p.0 e p.3 in
      let at : mirror_of w m.0 m.1 ≡ Some (e, i) = (λ t. mirror_of w (p.4 t).0 (p.4 t).1) ∙ back ∙ (λ t. Some (e, sym p.2 t)) in
      subst (λ o. IsTrue (at_mirror (takes_id e i) o)) (sym at) (both (entity_eq e e) (id_eq i i) (entity_eq_itself e) (id_eq_itself i))

  its_goes : (j : Id) → goes m.0 j ≡ id_eq j m.1
  its_goes j =
      same_tests (goes m.0 j) (id_eq j m.1)
      (λ h. elim (or_parts (at_mirror (takes_id e i) (mirror_of w m.0 j)) (takes_id e i m.0 j) h) as (λ _. IsTrue (id_eq j m.1)) [
        | inl k ↦ its_mirror j k
        | inr k ↦ absurd (not_both (first (entity_eq m.0 e) _ k) other)
      ])
      (λ h. or_left _ (takes_id e i m.0 j)
      (subst (λ x. IsTrue (at_mirror (takes_id e i) (mirror_of w m.0 x))) (sym (id_eq_is j m.1 h)) mirror_goes))

  pub go_both : has w e i ≡ true → without w nobody (goes_too w (takes_id e i)) ≡ changed (changed w e (with_toggled i)) m.0 (with_toggled m.1)
  go_both there =
      both_taken w e i m is
      ∙ sym (ap (λ v. changed v m.0 (with_toggled m.1))
      (changed_alike w e (with_toggled i) (keeping (goes e)) (λ d at. leaves e i d at there ∙ (λ t. keeping (λ j. sym (own_goes j) t) d)))
      ∙ changed_alike (changed w e (keeping (goes e))) m.0 (with_toggled m.1) (keeping (goes m.0))
      (λ d at. leaves m.0 m.1 d (sym (changed_apart w e (keeping (goes e)) m.0 (apart m.0 e other)) ∙ at) (has_both ∙ there)
      ∙ (λ t. keeping (λ j. sym (its_goes j) t) d)))
