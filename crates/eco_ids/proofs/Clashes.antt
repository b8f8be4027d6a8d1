-- What an add makes clash is seen at a look: at its entity, and at the targets of the pairs of With that come.
use Rattle.eco_ids.proofs.Adds.{closure_came}
use Rattle.eco_ids.proofs.Common.{ℕ}
use Rattle.eco_ids.proofs.Facts.{off}
use Rattle.eco_ids.proofs.Mirrors.{held_with, living_with}
use Rattle.eco_ids.proofs.Common.{◌≡◌, Bool, true, false, not, ◌&&◌, ◌||◌, ◌⊎◌, List, IsTrue, IsFalse, Some, None, Option}
use Rattle.eco_ids.proofs.Common.{sym, refl, ap, ◌∙◌, subst, inl, inr, true≢false, list_any, Edition, First, Second, Entity}
use Rattle.eco_ids.proofs.Common.{ACYCLIC, EXCLUSIVE, SYMMETRIC, WITH, Id, Two, One, IsLawful, id_cmp, has_item, id_eq, entity_eq, IsClosure}
use Rattle.eco_ids.proofs.Common.{with_closure, with_mirror, grown, is_replaced, WorldState, Record, has, record_of, is_alive, names_living, living, held_by}
use Rattle.eco_ids.proofs.Common.{is_exclusive, is_acyclic, is_symmetric, has_symmetric, is_pair_of, is_with, is_clashing, mirror_of, has_clash}
use Rattle.eco_ids.proofs.Common.{world_of_edition, is_builtin}
use Rattle.eco_ids.specs.Mirrors.{ties_symmetric, would_be_barred, would_clash}
use Rattle.eco_ids.proofs.Adds.{half, closure_present, closure_write}
use Rattle.eco_ids.proofs.Ascending.{both, first, second}
use Rattle.eco_ids.proofs.First.{builtin_plain}
use Rattle.eco_ids.proofs.Facts.{any_is, id_eq_is, id_eq_itself, not_both, or_left, or_parts, or_right}
use Rattle.eco_ids.proofs.Gains.{two_is_not_one, same_relationship}
use Rattle.eco_ids.proofs.Grown.{grown_edition, half_keeps, id_came, id_kept}
use Rattle.eco_ids.proofs.Keeps.{alive_still, has_in, some_of}
use Rattle.eco_ids.proofs.Mirrors.{IsCalm, calm_from, held_pair, living_some, mirror_parts, mirrored_of, rest_of, with_is}
use Rattle.eco_ids.proofs.Overlaps.{entity_eq_is, entity_eq_itself}
use Rattle.eco_ids.proofs.Records.{IsWrite}

-- With is a built-in that is not exclusive
with_begins : (d : Edition) (n : ℕ) → IsTrue (is_builtin (world_of_edition d n) WITH) × IsFalse (has (world_of_edition d n) WITH (One EXCLUSIVE))
with_begins First n = (refl, refl)
with_begins Second n = (refl, refl)

with_plain : (w : WorldState) → IsLawful w → IsFalse (is_exclusive w WITH)
with_plain w l = let begins = with_begins w.edition w.limit in ap (λ o. has_in o (One EXCLUSIVE)) (l.orderly.builtins WITH begins.0) ∙ begins.1

-- an item that passes is found
item_any : (t : Id → Bool) (i : Id) (s : List Id) → IsTrue (has_item id_cmp s i) → IsTrue (t i) → IsTrue (list_any t s)
item_any t i s h p =
    let m = any_is (λ j. id_eq j i) s h in
    m.2 t (subst (λ j. IsTrue (t j)) (sym (id_eq_is m.0 i m.1)) p)

-- and one that is found is an item
any_item : (t : Id → Bool) (s : List Id) → IsTrue (list_any t s) → (i : Id) × IsTrue (has_item id_cmp s i) × IsTrue (t i)
any_item t s h = let m = any_is t s h in (m.0, m.2 (λ j. id_eq j m.0) (id_eq_itself m.0), m.1)

module _ (w : WorldState) (e : Entity) (i : Id) (s : List Id) (d : Record) (at : record_of w e ≡ Some d) (closure : IsClosure w i s)
    (named : IsTrue (names_living w i)) where
  write : IsWrite w e (with_closure w s d) (half w e s)
  write = closure_write w e i s d at

  -- who holds the mirror lives
  mirror_lives : (m : Entity × Id) → mirror_of w e i ≡ Some m → (q : Record) × (record_of (half w e s) m.0 ≡ Some q)
  mirror_lives m is =
      let p = mirror_parts w e i m is in
      let both_live : IsTrue (names_living w (Two p.0 p.1)) = subst (λ j. IsTrue (names_living w j)) p.2 named in
      let holder : m.0 ≡ p.1 = ap (λ (x : Entity × Id). x.0) p.4 in
      some_of (record_of (half w e s) m.0)
      (ap (is_alive (half w e s)) holder ∙ alive_still write p.1 (second (is_alive w p.0) (is_alive w p.1) both_live))

  mirror_keeps : (x : Entity) (j : Id) → IsTrue (has (half w e s) x j) → IsTrue (has (grown w e i s) x j)
  mirror_keeps x j h = by (mirror_of w e i) refl
    where
      by : (o : Option (Entity × Id)) → mirror_of w e i ≡ o → IsTrue (has (with_mirror (half w e s) o) x j)
      by None is = h
      by (Some m) is = let lives = mirror_lives m is in id_kept (half w e s) m.0 m.1 lives.0 lives.1 x j h

  -- an id that is no symmetric pair came from the closure, and one that isn't replaced stays
  came : (x : Entity) (j : Id) → ((r t : Entity) → j ≡ Two r t → IsTrue (is_symmetric w r) → ⊥) → IsTrue (has (grown w e i s) x j) →
      IsTrue (has w x j) ⊎ ((x ≡ e) × IsTrue (has_item id_cmp s j))
  came x j plain = by (mirror_of w e i) refl
    where
      by : (o : Option (Entity × Id)) → mirror_of w e i ≡ o → IsTrue (has (with_mirror (half w e s) o) x j) →
          IsTrue (has w x j) ⊎ ((x ≡ e) × IsTrue (has_item id_cmp s j))
      by None is h = closure_came w e i s d at x j h
      by (Some m) is h =
          let p = mirror_parts w e i m is in
          let lives = mirror_lives m is in
          elim (id_came (half w e s) m.0 m.1 lives.0 lives.1 x j h) as (λ _. IsTrue (has w x j) ⊎ ((x ≡ e) × IsTrue (has_item id_cmp s j))) [
            | inl k ↦ closure_came w e i s d at x j k
            | inr q ↦ absurd (plain p.0 e (sym q.1 ∙ ap (λ (y : Entity × Id). y.1) p.4) p.3)
          ]

  stays : (x : Entity) (j : Id) → IsTrue (has w x j) → IsFalse (is_replaced w s j) → IsTrue (has (grown w e i s) x j)
  stays x j h kept = mirror_keeps x j (half_keeps w e i s d at x j h kept)

  there : (j : Id) → IsTrue (has_item id_cmp s j) → IsTrue (has (grown w e i s) e j)
  there j h = mirror_keeps e j (closure_present w e i s d at j h)

  -- a single id, and a pair of With, is no symmetric pair, and is replaced by none
  one_plain : (c r t : Entity) → One c ≡ Two r t → IsTrue (is_symmetric w r) → ⊥
  one_plain c r t is h = two_is_not_one (sym is)

  module _ (l : IsLawful w) (has_it : IsTrue (has_symmetric w.edition)) where
    calm : IsCalm w
    calm = calm_from w (mirrored_of w l has_it).calm

    with_unsymmetric : (x r t : Entity) → Two WITH x ≡ Two r t → IsTrue (is_symmetric w r) → ⊥
    with_unsymmetric x r t is h =
        builtin_plain w WITH l.orderly (with_begins w.edition w.limit).0
        (subst (λ y. IsTrue (has w y (One SYMMETRIC))) (sym (same_relationship is)) (second (has_symmetric w.edition) _ h))

    with_stays : (x : Entity) → IsFalse (is_replaced w s (Two WITH x))
    with_stays x = ap (λ b. b && (list_any (is_pair_of WITH) s && not (has_item id_cmp s (Two WITH x)))) (with_plain w l)

    -- the edition is the same, so who has Symmetric is symmetric
    new_symmetric : (r : Entity) → IsTrue (has (grown w e i s) r (One SYMMETRIC)) → IsTrue (is_symmetric (grown w e i s) r)
    new_symmetric r h = both (has_symmetric (grown w e i s).edition) _ (ap has_symmetric (grown_edition w e i s) ∙ has_it) h

    -- ---- what clashes after the add would clash at a look

    -- e itself would, or a symmetric one has come along with it
    abbrev Clashes : Type 0
    Clashes = (IsTrue (has w e (One SYMMETRIC) || has_item id_cmp s (One SYMMETRIC))
        × IsTrue (would_be_barred w e s)) ⊎ IsTrue (list_any (ties_symmetric w) s)

    own_trait : (r c : Entity) → r ≡ e → IsTrue (has (grown w e i s) r (One c)) → IsTrue (has w e (One c) || has_item id_cmp s (One c))
    own_trait r c is h = elim (came r (One c) (one_plain c) h) as (λ _. IsTrue (has w e (One c) || has_item id_cmp s (One c))) [
      | inl k ↦ or_left _ _ (subst (λ y. IsTrue (has w y (One c))) is k)
      | inr k ↦ or_right (has w e (One c)) _ k.1
    ]

    -- a trait of one who was symmetric before is new
    fresh_trait : (r c : Entity) → (IsTrue (has w r (One c)) → ⊥) → IsTrue (has (grown w e i s) r (One c)) → r ≡ e
    fresh_trait r c none h = elim (came r (One c) (one_plain c) h) as (λ _. r ≡ e) [ inl k ↦ absurd (none k) | inr k ↦ k.0 ]

    barred_exclusive : IsTrue (is_exclusive w e || has_item id_cmp s (One EXCLUSIVE)) → IsTrue (would_be_barred w e s)
    barred_exclusive h = or_left (is_exclusive w e || has_item id_cmp s (One EXCLUSIVE)) _ h

    barred_acyclic : IsTrue (is_acyclic w e || has_item id_cmp s (One ACYCLIC)) → IsTrue (would_be_barred w e s)
    barred_acyclic h = or_right (is_exclusive w e || has_item id_cmp s (One EXCLUSIVE)) _ (or_left (is_acyclic w e || has_item id_cmp s (One ACYCLIC)) _ h)

    barred_with : IsTrue ((list_any (λ h. is_with h.0) (held_by w e) || list_any is_with s) || list_any (λ p. has w p.0 (Two WITH e)) (living w)) →
        IsTrue (would_be_barred w e s)
    barred_with h = or_right (is_exclusive w e || has_item id_cmp s (One EXCLUSIVE)) _ (or_right (is_acyclic w e || has_item id_cmp s (One ACYCLIC)) _ h)

    -- whoever has become symmetric is e
    was_or_is : (r : Entity) → IsTrue (is_symmetric (grown w e i s) r)
        → IsTrue (is_symmetric w r) ⊎ ((r ≡ e) × IsTrue (has_item id_cmp s (One SYMMETRIC)))
    was_or_is r h = elim (came r (One SYMMETRIC) (one_plain SYMMETRIC) (second (has_symmetric (grown w e i s).edition) _ h)) as (λ _. IsTrue (is_symmetric w r)
        ⊎ ((r ≡ e) × IsTrue (has_item id_cmp s (One SYMMETRIC)))) [
          | inl k ↦ inl (both (has_symmetric w.edition) _ has_it k)
          | inr k ↦ inr k
        ]

    -- e is symmetric in either case
    own_symmetric : (r : Entity) → r ≡ e → IsTrue (is_symmetric (grown w e i s) r)
        → IsTrue (has w e (One SYMMETRIC) || has_item id_cmp s (One SYMMETRIC))
    own_symmetric r is h = own_trait r SYMMETRIC is (second (has_symmetric (grown w e i s).edition) _ h)

    by_trait : (r c : Entity) → (IsTrue (is_symmetric w r) → IsTrue (has w r (One c)) → ⊥) →
        (IsTrue (has w e (One c) || has_item id_cmp s (One c)) →
        IsTrue (would_be_barred w e s)) → IsTrue (is_symmetric (grown w e i s) r) → IsTrue (has (grown w e i s) r (One c)) → Clashes
    by_trait r c never bars sy h =
        let is : r ≡ e = elim (was_or_is r sy) as (λ _. r ≡ e) [ inl k ↦ fresh_trait r c (never k) h | inr k ↦ k.0 ] in
        inl (own_symmetric r is sy, bars (own_trait r c is h))

    by_holder : (r x : Entity) → IsTrue (is_symmetric (grown w e i s) r) → IsTrue (has (grown w e i s) r (Two WITH x)) → Clashes
    by_holder r x sy h = elim (came r (Two WITH x) (with_unsymmetric x) h) as (λ _. Clashes) [
      | inl k ↦ elim (was_or_is r sy) as (λ _. Clashes) [
        | inl m ↦ absurd (calm.holder r x m k)
        | inr m ↦ inl (
          own_symmetric r m.0 sy,
          barred_with (or_left _ _
              (or_left _ _ (subst (λ y. IsTrue (list_any (λ h. is_with h.0) (held_by w y))) m.0 (held_with w r x k)))),
        )
      ]
      | inr k ↦ inl (
        own_symmetric r k.0 sy,
        barred_with (or_left _ _
            (or_right (list_any (λ h. is_with h.0) (held_by w e)) _ (item_any is_with (Two WITH x) s k.1 refl))),
      )
    ]

    by_target : (r x : Entity) → IsTrue (is_symmetric (grown w e i s) r) → IsTrue (has (grown w e i s) x (Two WITH r)) → Clashes
    by_target r x sy h = elim (came x (Two WITH r) (with_unsymmetric r) h) as (λ _. Clashes) [
      | inl k ↦ elim (was_or_is r sy) as (λ _. Clashes) [
        | inl m ↦ absurd (calm.target r x m k)
        | inr m ↦ inl (
          own_symmetric r m.0 sy,
          barred_with (or_right (list_any (λ h. is_with h.0) (held_by w e) || list_any is_with s) _
              (subst (λ y. IsTrue (list_any (λ p. has w p.0 (Two WITH y)) (living w))) m.0 (living_with w x r k))),
        )
      ]
      | inr k ↦ elim (was_or_is r sy) as (λ _. Clashes) [
        | inl m ↦ inr (item_any (ties_symmetric w) (Two WITH r) s k.1 (both (entity_eq WITH WITH) _ (entity_eq_itself WITH) m))
        | inr m ↦ inl (
          own_symmetric r m.0 sy,
          barred_with (or_left _ _
              (or_right (list_any (λ h. is_with h.0) (held_by w e)) _ (item_any is_with (Two WITH r) s k.1 refl))),
        )
      ]
    ]

    clashes_at : (r : Entity) → IsTrue (is_symmetric (grown w e i s) r) → IsTrue (rest_of (grown w e i s) r) → Clashes
    clashes_at r sy h = elim (or_parts (is_exclusive (grown w e i s) r) _ h) as (λ _. Clashes) [
      | inl a ↦ by_trait r EXCLUSIVE (calm.exclusive r) barred_exclusive sy a
      | inr m ↦ elim (or_parts (is_acyclic (grown w e i s) r) _ m) as (λ _. Clashes) [
        | inl a ↦ by_trait r ACYCLIC (calm.acyclic r) barred_acyclic sy a
        | inr n ↦ elim (or_parts (list_any (λ h. is_with h.0) (held_by (grown w e i s) r)) _ n) as (λ _. Clashes) [
          | inl a ↦ let p = held_pair (grown w e i s) r a in by_holder r p.0 sy p.1
          | inr a ↦ let x = living_some (λ p. has (grown w e i s) p.0 (Two WITH r)) (grown w e i s) a in by_target r x.0 sy x.3
        ]
      ]
    ]

    there_seen : IsTrue (has_clash (grown w e i s)) → Clashes
    there_seen h =
        let r = living_some (λ p. is_clashing (grown w e i s) p.0) (grown w e i s) (second (has_symmetric (grown w e i s).edition) _ h) in
        let sy : IsTrue (is_symmetric (grown w e i s) r.0) = first (is_symmetric (grown w e i s) r.0) _ r.3 in
        clashes_at r.0 sy (second (is_symmetric (grown w e i s) r.0) _ r.3)

    -- ---- and the other way round

    new_trait : (c : Entity) → IsTrue (has w e (One c) || has_item id_cmp s (One c)) → IsTrue (has (grown w e i s) e (One c))
    new_trait c h = elim (or_parts (has w e (One c)) _ h) as
        (λ _. IsTrue (has (grown w e i s) e (One c))) [ inl k ↦ stays e (One c) k refl | inr k ↦ there (One c) k ]

    new_with : (x y : Entity) → IsTrue (has w x (Two WITH y)) → IsTrue (has (grown w e i s) x (Two WITH y))
    new_with x y h = stays x (Two WITH y) h (with_stays y)

    not_calm : IsCalm (grown w e i s) → Clashes → ⊥
    not_calm c (inl h) =
        let sy = new_symmetric e (new_trait SYMMETRIC h.0) in
        elim (or_parts (is_exclusive w e || has_item id_cmp s (One EXCLUSIVE)) _ h.1) as (λ _. ⊥) [
          | inl a ↦ c.exclusive e sy (new_trait EXCLUSIVE a)
          | inr m ↦ elim (or_parts (is_acyclic w e || has_item id_cmp s (One ACYCLIC)) _ m) as (λ _. ⊥) [
            | inl a ↦ c.acyclic e sy (new_trait ACYCLIC a)
            | inr n ↦ elim (or_parts (list_any (λ h. is_with h.0) (held_by w e) || list_any is_with s) _ n) as (λ _. ⊥) [
              | inl a ↦ elim (or_parts (list_any (λ h. is_with h.0) (held_by w e)) _ a) as (λ _. ⊥) [
                | inl b ↦ let p = held_pair w e b in c.holder e p.0 sy (new_with e p.0 p.1)
                | inr b ↦
                    let p = any_item is_with s b in
                    let x = with_is p.0 p.2 in
                    c.holder e x.0 sy (there (Two WITH x.0) (subst (λ j. IsTrue (has_item id_cmp s j)) x.1 p.1))
              ]
              | inr a ↦ let x = living_some (λ p. has w p.0 (Two WITH e)) w a in c.target e x.0 sy (new_with x.0 e x.3)
            ]
          ]
        ]
    not_calm c (inr h) =
        let p = any_item (ties_symmetric w) s h in
        let tie = tie_parts p.0 p.2 in
        let sy = new_symmetric tie.0 (stays tie.0 (One SYMMETRIC) (second (has_symmetric w.edition) _ tie.2) refl) in
        c.target tie.0 e sy (there (Two WITH tie.0) (subst (λ j. IsTrue (has_item id_cmp s j)) tie.1 p.1))
      where
        tie_parts : (j : Id) → IsTrue (ties_symmetric w j) → (x : Entity) × (j ≡ Two WITH x) × IsTrue (is_symmetric w x)
        tie_parts (One c) h = absurd (true≢false (sym h))
        tie_parts (Two r t) h = (t, ap (λ y. Two y t) (entity_eq_is r WITH (first (entity_eq r WITH) _ h)), second (entity_eq r WITH) _ h)

    seen_is : (b : Bool) → has_clash (grown w e i s) ≡ b → (c : Bool) → would_clash w e s ≡ c → b ≡ c
    seen_is true h true k = refl
    seen_is false h false k = refl
    seen_is true h false k = absurd (not_both (look (there_seen h)) k)
      where
        look : Clashes → IsTrue (would_clash w e s)
        look (inl q) = both (has_symmetric w.edition) _ has_it
            (or_left _ _ (both (has w e (One SYMMETRIC) || has_item id_cmp s (One SYMMETRIC)) (would_be_barred w e s) q.0 q.1))
        look (inr q) = both (has_symmetric w.edition) _ has_it
            (or_right ((has w e (One SYMMETRIC) || has_item id_cmp s (One SYMMETRIC)) && would_be_barred w e s) _ q)
    seen_is false h true k = absurd (not_calm (calm_from (grown w e i s) h) (parts (or_parts _ _ (second (has_symmetric w.edition) _ k))))
      where
        parts : IsTrue ((has w e (One SYMMETRIC) || has_item id_cmp s (One SYMMETRIC)) && would_be_barred w e s) ⊎ IsTrue (list_any (ties_symmetric w) s)
            → Clashes
        parts (inl q) = inl (first _ (would_be_barred w e s) q, second (has w e (One SYMMETRIC) || has_item id_cmp s (One SYMMETRIC)) _ q)
        parts (inr q) = inr q

  -- in the first edition neither is
  pub clash_is_local : (IsTrue (has_symmetric w.edition) → IsLawful w) → has_clash (grown w e i s) ≡ would_clash w e s
  clash_is_local l = by (has_symmetric w.edition) refl
    where
      by : (b : Bool) → has_symmetric w.edition ≡ b → has_clash (grown w e i s) ≡ would_clash w e s
      by true h = seen_is (l h) h (has_clash (grown w e i s)) refl (would_clash w e s) refl
      by false h =
          ap (λ b. b && list_any (λ p. is_clashing (grown w e i s) p.0) (living (grown w e i s))) (ap has_symmetric (grown_edition w e i s) ∙ h)
          ∙ sym (ap (λ b. b && (((has w e (One SYMMETRIC) || has_item id_cmp s (One SYMMETRIC)) && would_be_barred w e s) || list_any (ties_symmetric w) s)) h)

-- no id of the closure is a trait, or ties another
pub record IsQuiet (s : List Id) : Type 0 where
  pub exclusive : IsFalse (has_item id_cmp s (One EXCLUSIVE))
  pub acyclic : IsFalse (has_item id_cmp s (One ACYCLIC))
  pub symmetric : IsFalse (has_item id_cmp s (One SYMMETRIC))
  pub with : (x : Entity) → IsFalse (has_item id_cmp s (Two WITH x))

-- such a one makes nothing clash
pub quiet_clash : (w : WorldState) (e : Entity) (s : List Id) → (IsTrue (has_symmetric w.edition) → IsLawful w) →
    (IsTrue (has_symmetric w.edition) → IsQuiet s) → IsFalse (would_clash w e s)
quiet_clash w e s l quiet = by (has_symmetric w.edition) refl
  where
    Rest : Bool
    Rest = ((has w e (One SYMMETRIC) || has_item id_cmp s (One SYMMETRIC)) && would_be_barred w e s) || list_any (ties_symmetric w) s

    only : (c : Entity) → IsFalse (has_item id_cmp s (One c)) → IsTrue (has w e (One c) || has_item id_cmp s (One c)) → IsTrue (has w e (One c))
    only c none h = elim (or_parts (has w e (One c)) _ h) as (λ _. IsTrue (has w e (One c))) [ inl k ↦ k | inr k ↦ absurd (not_both k none) ]

    no_with : (q : IsQuiet s) → IsTrue (list_any is_with s) → ⊥
    no_with q h =
        let p = any_item is_with s h in
        let x = with_is p.0 p.2 in
        not_both (subst (λ j. IsTrue (has_item id_cmp s j)) x.1 p.1) (q.with x.0)

    barred : (h : IsTrue (has_symmetric w.edition)) → IsTrue (has w e (One SYMMETRIC)) → IsTrue (would_be_barred w e s) → ⊥
    barred has_it trait h =
        let q = quiet has_it in
        let calm = calm_from w (mirrored_of w (l has_it) has_it).calm in
        let sy : IsTrue (is_symmetric w e) = both (has_symmetric w.edition) _ has_it trait in
        elim (or_parts (is_exclusive w e || has_item id_cmp s (One EXCLUSIVE)) _ h) as (λ _. ⊥) [
          | inl a ↦ calm.exclusive e sy (only EXCLUSIVE q.exclusive a)
          | inr m ↦ elim (or_parts (is_acyclic w e || has_item id_cmp s (One ACYCLIC)) _ m) as (λ _. ⊥) [
            | inl a ↦ calm.acyclic e sy (only ACYCLIC q.acyclic a)
            | inr n ↦ elim (or_parts (list_any (λ h. is_with h.0) (held_by w e) || list_any is_with s) _ n) as (λ _. ⊥) [
              | inl a ↦ elim (or_parts (list_any (λ h. is_with h.0) (held_by w e)) _ a) as (λ _. ⊥) [
                | inl b ↦ let p = held_pair w e b in calm.holder e p.0 sy p.1
                | inr b ↦ no_with q b
              ]
              | inr a ↦ let x = living_some (λ p. has w p.0 (Two WITH e)) w a in calm.target e x.0 sy x.3
            ]
          ]
        ]

    tie : (j : Id) → IsTrue (ties_symmetric w j) → IsTrue (is_with j)
    tie (One c) h = h
    tie (Two r t) h = first (entity_eq r WITH) _ h

    none : (h : IsTrue (has_symmetric w.edition)) → IsTrue Rest → ⊥
    none has_it h =
        elim (or_parts ((has w e (One SYMMETRIC) || has_item id_cmp s (One SYMMETRIC)) && would_be_barred w e s) _ h) as (λ _. ⊥) [
          | inl a ↦ barred has_it
              (only SYMMETRIC (quiet has_it).symmetric (first (has w e (One SYMMETRIC) || has_item id_cmp s (One SYMMETRIC)) (would_be_barred w e s) a))
              (second (has w e (One SYMMETRIC) || has_item id_cmp s (One SYMMETRIC)) (would_be_barred w e s) a)
          | inr a ↦ let p = any_item (ties_symmetric w) s a in no_with (quiet has_it) (item_any is_with p.0 s p.1 (tie p.0 p.2))
        ]

    by : (b : Bool) → has_symmetric w.edition ≡ b → IsFalse (would_clash w e s)
    by true h = ap (λ c. c && Rest) h ∙ off Rest (none h)
    by false h = ap (λ c. c && Rest) h

-- so the add of such a closure does
pub quiet_grows : (w : WorldState) (e : Entity) (i : Id) (s : List Id) (d : Record) → record_of w e ≡ Some d → IsClosure w i s →
    IsTrue (names_living w i) →
    (IsTrue (has_symmetric w.edition) → IsLawful w) → (IsTrue (has_symmetric w.edition) → IsQuiet s) → IsFalse (has_clash (grown w e i s))
quiet_grows w e i s d at closure named l quiet = clash_is_local w e i s d at closure named l ∙ quiet_clash w e s l quiet
