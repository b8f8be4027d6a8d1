-- The world that an add leads to: the closure at its entity, and the mirror where there is one.
use Rattle.eco_ids.proofs.Facts.{only}
use Rattle.eco_ids.proofs.Adds.{closure_came}
use Rattle.eco_ids.proofs.Facts.{neither, off}
use Rattle.eco_ids.proofs.Common.{◌≡◌, false, cond, not, ◌&&◌, ◌||◌, ◌⊎◌, List, [], ◌∷◌, is_some, IsTrue, IsFalse, Some, None, Option, sym, refl}
use Rattle.eco_ids.proofs.Common.{ap}
use Rattle.eco_ids.proofs.Common.{◌∙◌, subst, inl, inr, true≢false, find, where_key, list_any, none-some, same_Some, Entity, ACYCLIC, EXCLUSIVE, SYMMETRIC}
use Rattle.eco_ids.proofs.Common.{Id, Two, One, is_builtin, IsLawful, IsOrderly, IsMirrored}
use Rattle.eco_ids.proofs.Common.{root, next, id_cmp, has_item, id_eq, IsClosure, with_closure, with_id, with_mirror, put, zeros, grown, changed}
use Rattle.eco_ids.proofs.Common.{is_replaced, is_reserved, is_pair_of, InClosure, Brings, WorldState, Record, has, record_of, is_alive, names_living}
use Rattle.eco_ids.proofs.Common.{is_exclusive, is_acyclic, is_symmetric, has_symmetric, mirror_of, at_mirror, has_clash, fits}
use Rattle.eco_ids.proofs.Adds.{IsClear, half, closure_gains, closure_orderly, closure_present, closure_write, zeros_pass}
use Rattle.eco_ids.proofs.Ascending.{both, first, second}
use Rattle.eco_ids.proofs.Closures.{closure_uniform, find_kept, zero_entry, zero_has, zero_keeps, zero_sorted, zeros_have, zeros_keep}
use Rattle.eco_ids.proofs.Facts.{id_eq_itself, or_left, or_parts, same_or_apart}
use Rattle.eco_ids.proofs.Gains.{Gains, IsUniform, singles, pairs, exclusive_still, acyclic_still, two_is_not_one, same_relationship, same_target}
use Rattle.eco_ids.proofs.Keeps.{alive_still, has_entry, has_in, orderly_change, some_of}
use Rattle.eco_ids.proofs.Mirrors.{IsCalm, calm_from, lawful_after, mirror_is, mirror_parts, mirrored_of, symmetric_before}
use Rattle.eco_ids.proofs.Overlaps.{entity_eq_is}
use Rattle.eco_ids.proofs.Records.{IsWrite, changed_apart, changed_each, write_change}

-- ---- what every add leaves

pub mirror_edition : (w : WorldState) (o : Option (Entity × Id)) → (with_mirror w o).edition ≡ w.edition
mirror_edition w None = refl
mirror_edition w (Some m) = refl

pub grown_edition : (w : WorldState) (e : Entity) (i : Id) (s : List Id) → (grown w e i s).edition ≡ w.edition
grown_edition w e i s = mirror_edition (half w e s) (mirror_of w e i)

-- whatever is asked of a record that ids don't change
pub grown_each : (w : WorldState) (e : Entity) (i : Id) (s : List Id) {B : Type 0} (f : Option Record → B) →
    ((d : Record) → f (Some (with_closure w s d)) ≡ f (Some d)) → ((j : Id) (d : Record) → f (Some (with_id j d)) ≡ f (Some d)) → (x : Entity) →
    f (record_of (grown w e i s) x) ≡ f (record_of w x)
grown_each w e i s f closes comes x = by (mirror_of w e i)
  where
    by : (o : Option (Entity × Id)) → f (record_of (with_mirror (half w e s) o) x) ≡ f (record_of w x)
    by None = changed_each w e (with_closure w s) f (λ d at. closes d) x
    by (Some m) = changed_each (half w e s) m.0 (with_id m.1) f (λ d at. comes m.1 d) x ∙ changed_each w e (with_closure w s) f (λ d at. closes d) x

pub grown_alive : (w : WorldState) (e : Entity) (i : Id) (s : List Id) (x : Entity) → is_alive (grown w e i s) x ≡ is_alive w x
grown_alive w e i s = grown_each w e i s is_some (λ d. refl) (λ j d. refl)

-- an id that is there stays as it is
id_there : (i : Id) (d : Record) → IsTrue (is_some (find id_cmp i d.held)) → with_id i d ≡ d
id_there i d h = ap (λ b. record d { held = cond b d.held (put id_cmp i zeros d.held) }) h

-- ---- an add that nothing stands against

-- a pair brings no single
pairs_only : (w : WorldState) (r t : Entity) (s : List Id) → IsClosure w (Two r t) s → (c : Entity) → IsTrue (has_item id_cmp s (One c)) → ⊥
pairs_only w r t s closure c h =
    elim (closure_uniform w (Two r t) s closure) as (λ _. ⊥) [
      | singles all ↦ two_is_not_one (all (Two r t) ((closure.exact (Two r t)).1 (root refl))).1
      | pairs u all ↦ two_is_not_one (sym (all (One c) h).1)
    ]

-- the entity has the closure, whoever holds the mirror
pub grown_at : (w : WorldState) (e : Entity) (i : Id) (s : List Id) (d : Record) → record_of w e ≡ Some d → IsTrue (has_item id_cmp s i) →
    record_of (grown w e i s) e ≡ Some (with_closure w s d)
grown_at w e i s d at own = by (mirror_of w e i) refl
  where
    write : IsWrite w e (with_closure w s d) (half w e s)
    write = closure_write w e i s d at

    own_mirror : (m : Entity × Id) → mirror_of w e i ≡ Some m → m.0 ≡ e → m.1 ≡ i
    own_mirror m is here =
        let p = mirror_parts w e i m is in
        let holder : p.1 ≡ e = sym (ap (λ (x : Entity × Id). x.0) p.4) ∙ here in
        ap (λ (x : Entity × Id). x.1) p.4 ∙ ap (Two p.0) (sym holder) ∙ sym p.2

    by : (o : Option (Entity × Id)) → mirror_of w e i ≡ o → record_of (with_mirror (half w e s) o) e ≡ Some (with_closure w s d)
    by None is = write.at
    by (Some m) is = elim (same_or_apart e m.0) as (λ _. record_of (changed (half w e s) m.0 (with_id m.1)) e ≡ Some (with_closure w s d)) [
      | inr n ↦ changed_apart (half w e s) m.0 (with_id m.1) e n ∙ write.at
      | inl k ↦
          let same : m.1 ≡ i = own_mirror m is (sym k) in
          subst (λ x. record_of (changed (half w e s) x (with_id m.1)) e ≡ Some (with_closure w s d)) k
          ((write_change (half w e s) e (with_id m.1) (with_closure w s d) write.at).at
          ∙ ap Some (ap (λ j. with_id j (with_closure w s d)) same
          ∙ id_there i (with_closure w s d) (zeros_have s (where_key id_cmp (λ j. not (is_replaced w s j)) d.held) i own)))
    ]

-- who has what in the world after an add of i to e
pub record Grows (w : WorldState) (e : Entity) (i : Id) (s : List Id) (new : WorldState) : Type 0 where
  pub edition : new.edition ≡ w.edition
  pub came : (x : Entity) (j : Id) → IsTrue (has new x j) →
      (IsTrue (has w x j) ⊎ ((x ≡ e) × IsTrue (has_item id_cmp s j))) ⊎ ((m : Entity × Id) × (mirror_of w e i ≡ Some m) × (x ≡ m.0)
      × (m.1 ≡ j))
  pub stays : (x : Entity) (j : Id) → IsTrue (has w x j) → IsFalse (is_replaced w s j) → IsTrue (has new x j)
  pub there : (j : Id) → IsTrue (has_item id_cmp s j) → IsTrue (has new e j)
  pub mirror : (m : Entity × Id) → mirror_of w e i ≡ Some m → IsTrue (has new m.0 m.1)

-- of the symmetric pairs the closure has the one that was added alone
module _ (w : WorldState) (i : Id) (calm : IsCalm w) where
  brought : (r b : Entity) → IsTrue (is_symmetric w r) → (a : Id) → Brings w a (Two r b) → ⊥
  brought r b s (One c) p = p
  brought r b s (Two q u) p = calm.target r q s p.0

  pub itself : {j : Id} → InClosure w i j → (r b : Entity) → j ≡ Two r b → IsTrue (is_symmetric w r) → j ≡ i
  itself (root e) r b is s = e
  itself (next {a = a} {b = k} member brings) r b is s = absurd (brought r b s a (subst (λ y. Brings w a y) is brings))

  -- and it has no pair that a symmetric one replaces
  kept_pair : (s : List Id) (r b : Entity) → IsTrue (is_symmetric w r) → IsFalse (is_replaced w s (Two r b))
  kept_pair s r b h = ap (λ c. c && (list_any (is_pair_of r) s && not (has_item id_cmp s (Two r b)))) (off (is_exclusive w r) (calm.exclusive r h))

-- so an add keeps the mirrors, where nothing clashes after it
pub grows_mirrored : (w : WorldState) (e : Entity) (i : Id) (s : List Id) (new : WorldState) → IsClosure w i s →
    (IsTrue (has_item id_cmp s (One SYMMETRIC)) → IsTrue (has w e (One SYMMETRIC)) ⊎ ((x t : Entity) → IsTrue (has w x (Two e t)) → ⊥)) →
    Grows w e i s new → IsFalse (has_clash new) → IsMirrored w → IsMirrored new
grows_mirrored w e i s new closure once g none m = record { mirrors = mirrors; calm = none }
  where
    calm : IsCalm w
    calm = calm_from w m.calm

    own : IsTrue (has_item id_cmp s i)
    own = (closure.exact i).1 (root refl)

    -- the relationship was symmetric before
    old : (r a b : Entity) → IsTrue (is_symmetric w r) → IsTrue (has new a (Two r b)) → IsTrue (has new b (Two r a))
    old r a b sy edge =
        elim (g.came a (Two r b) edge) as (λ _. IsTrue (has new b (Two r a))) [
          | inl p ↦ elim p as (λ _. IsTrue (has new b (Two r a))) [
            | inl was ↦ g.stays b (Two r a) (m.mirrors r a b sy was) (kept_pair w i calm s r a sy)
            | inr q ↦
                let same : Two r b ≡ i = itself w i calm ((closure.exact (Two r b)).0 q.1) r b refl sy in
                let is : mirror_of w e i ≡ Some (b, Two r e) = ap (mirror_of w e) (sym same) ∙ mirror_is w e r b sy in
                subst (λ y. IsTrue (has new b (Two r y))) (sym q.0) (g.mirror (b, Two r e) is)
          ]
          | inr q ↦
              let p = mirror_parts w e i q.0 q.1 in
              let pair : Two p.0 e ≡ Two r b = sym (ap (λ (x : Entity × Id). x.1) p.4) ∙ q.3 in
              let holder : p.1 ≡ a = sym (ap (λ (x : Entity × Id). x.0) p.4) ∙ sym q.2 in
              let there : IsTrue (has new e (Two p.0 p.1)) = subst (λ j. IsTrue (has new e j)) p.2 (g.there i own) in
              subst (λ y. IsTrue (has new y (Two r a))) (same_target pair)
              (subst (λ y. IsTrue (has new e (Two y a))) (same_relationship pair) (subst (λ y. IsTrue (has new e (Two p.0 y))) holder there))
        ]

    -- or it became so, while no pair of it was about
    fresh : (r a b : Entity) → r ≡ e → IsTrue (has_item id_cmp s (One SYMMETRIC)) → ((x t : Entity) → IsTrue (has w x (Two e t)) → ⊥) →
        IsTrue (has new a (Two r b)) → ⊥
    fresh r a b is single unused edge =
        elim (g.came a (Two r b) edge) as (λ _. ⊥) [
          | inl p ↦ elim p as (λ _. ⊥) [
            | inl was ↦ unused a b (subst (λ y. IsTrue (has w a (Two y b))) is was)
            | inr q ↦ apart (closure_uniform w i s closure) q.1
          ]
          | inr q ↦ let p = mirror_parts w e i q.0 q.1 in pairs_only w p.0 p.1 s (subst (λ j. IsClosure w j s) p.2 closure) SYMMETRIC single
        ]
      where
        apart : IsUniform s → IsTrue (has_item id_cmp s (Two r b)) → ⊥
        apart (singles all) h = two_is_not_one (all (Two r b) h).1
        apart (pairs u all) h = two_is_not_one (sym (all (One SYMMETRIC) single).1)

    mirrors : (r a b : Entity) → IsTrue (is_symmetric new r) → IsTrue (has new a (Two r b)) → IsTrue (has new b (Two r a))
    mirrors r a b sy edge =
        let trait : IsTrue (has new r (One SYMMETRIC)) = second (has_symmetric new.edition) _ sy in
        let was : IsTrue (has w r (One SYMMETRIC)) → IsTrue (has new b (Two r a)) =
        λ h. old r a b (symmetric_before w new r g.edition (λ _. h) sy) edge in
        elim (g.came r (One SYMMETRIC) trait) as (λ _. IsTrue (has new b (Two r a))) [
          | inl p ↦ elim p as (λ _. IsTrue (has new b (Two r a))) [
            | inl h ↦ was h
            | inr q ↦ elim (once q.1) as (λ _. IsTrue (has new b (Two r a))) [
              | inl h ↦ was (subst (λ y. IsTrue (has w y (One SYMMETRIC))) (sym q.0) h)
              | inr unused ↦ absurd (fresh r a b q.0 q.1 unused edge)
            ]
          ]
          | inr q ↦ let p = mirror_parts w e i q.0 q.1 in absurd (two_is_not_one (sym (ap (λ (x : Entity × Id). x.1) p.4) ∙ q.3))
        ]

-- what stands in the way of who acts doesn't, so neither it nor the holder of the mirror is a built-in
pub may_come : (w : WorldState) (e : Entity) (i : Id) → IsFalse (is_reserved w e i) →
    IsFalse (is_builtin w e) × ((m : Entity × Id) → mirror_of w e i ≡ Some m → IsFalse (is_builtin w m.0))
may_come w e i free = (by (mirror_of w e i) free, λ m is. at m (subst (λ o. (at_mirror (λ x j. is_builtin w x) o || is_builtin w e) ≡ false) is free))
  where
    by : (o : Option (Entity × Id)) → (at_mirror (λ x j. is_builtin w x) o || is_builtin w e) ≡ false → IsFalse (is_builtin w e)
    by o h = (neither (at_mirror (λ x j. is_builtin w x) o) (is_builtin w e) h).1

    at : (m : Entity × Id) → (is_builtin w m.0 || is_builtin w e) ≡ false → IsFalse (is_builtin w m.0)
    at m h = (neither (is_builtin w m.0) (is_builtin w e) h).0

-- the mirror is written, where it may come
module _ (h : WorldState) (t : Entity) (j : Id) (d : Record) (at : record_of h t ≡ Some d) where
  abbrev written : WorldState
  written = changed h t (with_id j)

  write : IsWrite h t (with_id j d) written
  write = write_change h t (with_id j) d at

  pub id_came : (x : Entity) (k : Id) → IsTrue (has written x k) → IsTrue (has h x k) ⊎ ((x ≡ t) × (j ≡ k))
  id_came x k here =
      elim (same_or_apart x t) as (λ _. IsTrue (has h x k) ⊎ ((x ≡ t) × (j ≡ k))) [
        | inr n ↦ inl (sym (ap (λ o. has_in o k) (write.apart x n)) ∙ here)
        | inl same ↦
            let held : IsTrue (is_some (find id_cmp k (with_id j d).held)) =
            sym (ap (λ o. has_in o k) write.at) ∙ ap (λ y. has written y k) (sym same) ∙ here in
            let v = some_of (find id_cmp k (with_id j d).held) held in
            elim (zero_entry d.held j k v.0 v.1) as (λ _. IsTrue (has h x k) ⊎ ((x ≡ t) × (j ≡ k))) [
              | inl old ↦ inl (subst (λ y. IsTrue (has h y k)) (sym same) (has_entry h t k d v.0 at old))
              | inr p ↦ inr (same, p.0)
            ]
      ]

  pub id_kept : (x : Entity) (k : Id) → IsTrue (has h x k) → IsTrue (has written x k)
  id_kept x k here =
      elim (same_or_apart x t) as (λ _. IsTrue (has written x k)) [
        | inr n ↦ ap (λ o. has_in o k) (write.apart x n) ∙ here
        | inl same ↦
            let held : IsTrue (is_some (find id_cmp k d.held)) = sym (ap (λ o. has_in o k) at) ∙ ap (λ y. has h y k) (sym same) ∙ here in
            let v = some_of (find id_cmp k d.held) held in
            ap (λ y. has written y k) same ∙ has_entry written t k (with_id j d) v.0 write.at (zero_keeps d.held j k v.0 v.1)
      ]

  pub id_has : IsTrue (has written t j)
  id_has = ap (λ o. has_in o j) write.at ∙ zero_has d.held j

  -- a pair of a relationship that is neither exclusive nor acyclic
  id_orderly : (r e : Entity) → j ≡ Two r e → IsOrderly h → IsFalse (is_builtin h t) → IsTrue (names_living h j) →
      (IsTrue (is_exclusive h r) → ⊥) → (IsTrue (is_acyclic h r) → ⊥) → IsOrderly written
  id_orderly r e is l ordinary named loose lasting =
      let old = l.records t d at in
      orderly_change l (record {
        at = at;
        ordinary = ordinary;
        arity = refl;
        proper_name = old.name;
        own_name = λ x q name n p a b. n (l.names x t q d name p at a b);
        ascending = zero_sorted d.held j old.ascending;
        entries = λ k v found. elim (zero_entry d.held j k v found) as (λ _. IsTrue (names_living h k) × IsTrue (fits h k v)) [
          | inl m ↦ (l.living t k (has_entry h t k d v at m), old.values k v m)
          | inr p ↦ (subst (λ y. IsTrue (names_living h y)) p.0 named, subst (λ u. IsTrue (fits h k u)) p.1 (zeros_pass _))
        ];
        exclusive = exclusive_still gains l.exclusive;
        acyclic = acyclic_still gains l.acyclic;
      })
    where
      none : (c : Entity) → IsTrue (has_item id_cmp (j ∷ []) (One c)) → ⊥
      none c found = two_is_not_one (sym is ∙ only j (One c) found)

      the_pair : (q : Entity) → IsTrue (list_any (is_pair_of q) (j ∷ [])) → q ≡ r
      the_pair q found = elim (or_parts (is_pair_of q j) false found) as (λ _. q ≡ r) [
        | inl p ↦ entity_eq_is q r (subst (λ y. IsTrue (is_pair_of q y)) is p)
        | inr p ↦ absurd (true≢false (sym p))
      ]

      gains : Gains h t (j ∷ []) written
      gains = record {
        from = λ x k here. elim (id_came x k here) as (λ _. IsTrue (has h x k) ⊎ ((x ≡ t) × IsTrue (has_item id_cmp (j ∷ []) k))) [
          | inl m ↦ inl m
          | inr p ↦ inr (p.0, or_left (id_eq j k) false (subst (λ y. IsTrue (id_eq j y)) p.1 (id_eq_itself j)))
        ];
        uniform = pairs e (λ k found. (r, sym (only j k found) ∙ is));
        evicted = λ q u trait some here. absurd (loose (subst (λ y. IsTrue (is_exclusive h y)) (the_pair q some) trait));
        once_exclusive = λ found. absurd (none EXCLUSIVE found);
        once_acyclic = λ found. absurd (none ACYCLIC found);
        no_cycle = λ q c. lasting (subst (λ y. IsTrue (is_acyclic h y)) (same_relationship (sym (only j (Two q c.1) c.2) ∙ is)) c.0);
      }

-- the closure leaves what is not replaced
pub half_keeps : (w : WorldState) (e : Entity) (i : Id) (s : List Id) (d : Record) → record_of w e ≡ Some d → (x : Entity) (j : Id)
    → IsTrue (has w x j) → IsFalse (is_replaced w s j) → IsTrue (has (half w e s) x j)
half_keeps w e i s d at x j h kept =
    let write = closure_write w e i s d at in
    elim (same_or_apart x e) as (λ _. IsTrue (has (half w e s) x j)) [
      | inr n ↦ ap (λ o. has_in o j) (write.apart x n) ∙ h
      | inl same ↦
          let held : IsTrue (is_some (find id_cmp j d.held)) = sym (ap (λ o. has_in o j) at) ∙ ap (λ y. has w y j) (sym same) ∙ h in
          let v = some_of (find id_cmp j d.held) held in
          let left : find id_cmp j (where_key id_cmp (λ k. not (is_replaced w s k)) d.held) ≡ Some v.0 =
          find_kept (λ k. not (is_replaced w s k)) j d.held ∙ ap (λ b. cond (not b) (find id_cmp j d.held) None) kept ∙ v.1 in
          ap (λ y. has (half w e s) y j) same
          ∙ has_entry (half w e s) e j (with_closure w s d) v.0 write.at
          (zeros_keep s (where_key id_cmp (λ k. not (is_replaced w s k)) d.held) j v.0 left)
    ]

-- an add that nothing stands against keeps a lawful world lawful
module _
    (w : WorldState) (e : Entity) (i : Id) (s : List Id) (d : Record) (at : record_of w e ≡ Some d) (l : IsLawful w) (free : IsFalse (is_reserved w e i))
    (named : IsTrue (names_living w i)) (closure : IsClosure w i s) (clear : IsClear w e s (grown w e i s)) where
  came : (x : Entity) (j : Id) → IsTrue (has (half w e s) x j) → IsTrue (has w x j) ⊎ ((x ≡ e) × IsTrue (has_item id_cmp s j))
  came = (closure_gains w e i s d at closure clear).from

  stays : (x : Entity) (j : Id) → IsTrue (has w x j) → IsFalse (is_replaced w s j) → IsTrue (has (half w e s) x j)
  stays = half_keeps w e i s d at

  half_orderly : IsOrderly (half w e s)
  half_orderly = closure_orderly w e i s d at l.orderly (may_come w e i free).0 named closure clear

  -- with its mirror, where there is one
  with_it : (o : Option (Entity × Id)) → mirror_of w e i ≡ o → IsOrderly (with_mirror (half w e s) o) × Grows w e i s (with_mirror (half w e s) o)
  with_it None is = (
    half_orderly,
    record {
      edition = refl;
      came = λ x j h. inl (came x j h);
      stays = stays;
      there = closure_present w e i s d at;
      mirror = λ m some. absurd (none-some m (sym is ∙ some));
    },
  )
  with_it (Some m) is =
      let p = mirror_parts w e i m is in
      let holder : m.0 ≡ p.1 = ap (λ (x : Entity × Id). x.0) p.4 in
      let pair : m.1 ≡ Two p.0 e = ap (λ (x : Entity × Id). x.1) p.4 in
      let both_live : IsTrue (names_living w (Two p.0 p.1)) = subst (λ j. IsTrue (names_living w j)) p.2 named in
      let write = closure_write w e i s d at in
      let lives : IsTrue (is_alive (half w e s) m.0) =
      ap (is_alive (half w e s)) holder ∙ alive_still write p.1 (second (is_alive w p.0) _ both_live) in
      let here = some_of (record_of (half w e s) m.0) lives in
      let calm = calm_from w (mirrored_of w l (first (has_symmetric w.edition) _ p.3)).calm in
      let none : (c : Entity) → IsTrue (has_item id_cmp s (One c)) → ⊥ = pairs_only w p.0 p.1 s (subst (λ j. IsClosure w j s) p.2 closure) in
      let old : (c : Entity) → IsTrue (has (half w e s) p.0 (One c)) → IsTrue (has w p.0 (One c)) =
      λ c h. elim (came p.0 (One c) h) as (λ _. IsTrue (has w p.0 (One c))) [ inl k ↦ k | inr q ↦ absurd (none c q.1) ] in
      let names : IsTrue (names_living (half w e s) m.1) =
      ap (names_living (half w e s)) pair
      ∙ both (is_alive (half w e s) p.0) _ (alive_still write p.0 (first (is_alive w p.0) _ both_live)) (alive_still write e (ap is_some at)) in (
        id_orderly (half w e s) m.0 m.1 here.0 here.1 p.0 e pair half_orderly ((may_come w e i free).1 m is) names
            (λ h. calm.exclusive p.0 p.3 (old EXCLUSIVE h)) (λ h. calm.acyclic p.0 p.3 (old ACYCLIC h)),
        record {
          edition = refl;
          came = λ x j h.
              elim (id_came (half w e s) m.0 m.1 here.0 here.1 x j h) as (λ _. (IsTrue (has w x j) ⊎ ((x ≡ e) × IsTrue (has_item id_cmp s j)))
              ⊎ ((n : Entity × Id) × (mirror_of w e i ≡ Some n) × (x ≡ n.0) × (n.1 ≡ j))) [
                | inl k ↦ inl (came x j k)
                | inr q ↦ inr (m, is, q.0, q.1)
              ];
          stays = λ x j h k. id_kept (half w e s) m.0 m.1 here.0 here.1 x j (stays x j h k);
          there = λ j h. id_kept (half w e s) m.0 m.1 here.0 here.1 e j (closure_present w e i s d at j h);
          mirror = λ n some.
              subst (λ (y : Entity × Id). IsTrue (has (with_mirror (half w e s) (Some m)) y.0 y.1)) (same_Some m n (sym is ∙ some))
              (id_has (half w e s) m.0 m.1 here.0 here.1);
        },
      )

  pub grown_lawful : IsLawful (grown w e i s)
  grown_lawful =
      let g = with_it (mirror_of w e i) refl in
      lawful_after l g.0 g.1.edition
      (λ second m. grows_mirrored w e i s (grown w e i s) closure (clear.once_symmetric second) g.1 clear.calm m)

-- where a pair is added, who has a single id had it before
pub single_before : (w : WorldState) (e : Entity) (i : Id) (s : List Id) (d : Record) → record_of w e ≡ Some d → IsClosure w i s → (r t : Entity)
    → i ≡ Two r t → (c x : Entity) → IsTrue (has (grown w e i s) x (One c)) → IsTrue (has w x (One c))
single_before w e i s d at closure r t is c x = by (mirror_of w e i) refl
  where
    none : IsTrue (has_item id_cmp s (One c)) → ⊥
    none = pairs_only w r t s (subst (λ j. IsClosure w j s) is closure) c

    first_write : (x : Entity) → IsTrue (has (half w e s) x (One c)) → IsTrue (has w x (One c))
    first_write x h = elim (closure_came w e i s d at x (One c) h) as (λ _. IsTrue (has w x (One c))) [ inl k ↦ k | inr n ↦ absurd (none n.1) ]

    by : (o : Option (Entity × Id)) → mirror_of w e i ≡ o → IsTrue (has (with_mirror (half w e s) o) x (One c)) → IsTrue (has w x (One c))
    by None k h = first_write x h
    by (Some m) k h = go (record_of (half w e s) m.0) refl
      where
        pair : m.1 ≡ One c → ⊥
        pair at = let p = mirror_parts w e i m k in two_is_not_one (sym (ap (λ (y : Entity × Id). y.1) p.4) ∙ at)

        go : (o : Option Record) → record_of (half w e s) m.0 ≡ o → IsTrue (has w x (One c))
        go None dead = first_write x (sym (changed_each (half w e s) m.0 (with_id m.1) (λ o. has_in o (One c))
            (λ q at. absurd (none-some q (sym dead ∙ at))) x) ∙ h)
        go (Some q) at = elim (id_came (half w e s) m.0 m.1 q at x (One c) h) as (λ _. IsTrue (has w x (One c))) [
          | inl n ↦ first_write x n
          | inr n ↦ absurd (pair n.1)
        ]
