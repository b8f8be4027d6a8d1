-- An add has an end: the closure can be listed, and what stands against it can be found.
use Rattle.eco_ids.proofs.Adds.{closure_lives, verdict_of}
use Rattle.eco_ids.proofs.Common.{◌≡◌, Bool, true, false, List, [], ◌∷◌, ◌++◌, map, IsTrue, Some, None, MatchBool, Option, sym, refl, subst, inl}
use Rattle.eco_ids.proofs.Common.{inr, ⊎_elim, arith, list_any, common_steps, Entity, ACYCLIC, WITH, Id, Two, One, Refusal, InUse, NotAPolicy}
use Rattle.eco_ids.proofs.Common.{late_traits, IsLawful, root, next, id_cmp, has_item, id_eq, Answers, changed, IsClosure, Judges, grown, Extends, ClosesCycle}
use Rattle.eco_ids.proofs.Common.{has_clash, IsFirstCycle, is_late, is_wrong_policy, Reaches, Brings, WorldState}
use Rattle.eco_ids.proofs.Common.{Record, has, is_alive, names_living}
use Rattle.eco_ids.proofs.Common.{is_acyclic}
use Rattle.eco_ids.proofs.Ascending.{first, second}
use Rattle.eco_ids.proofs.Endings.{End, done, unless}
use Rattle.eco_ids.proofs.Facts.{id_eq_is, id_eq_itself, same_or_apart}
use Rattle.eco_ids.proofs.IdOrder.{entity_cmp_total, id_cmp_total, same_id}
use Rattle.eco_ids.proofs.Listable.{In, Decided, decide_as, decide_bool, decide_both, decide_in, decide_then, least_of, listed, some_of, sorted}
use Rattle.eco_ids.proofs.LivingLists.{has_alive, living_in, the_living}

in_left : {A : Type 0} (x : A) (xs ys : List A) → In x xs → In x (xs ++ ys)
in_left x [] ys h = absurd h
in_left x (y ∷ xs) ys h = ⊎_elim (λ e. inl e) (λ m. inr (in_left x xs ys m)) h

in_right : {A : Type 0} (x : A) (xs ys : List A) → In x ys → In x (xs ++ ys)
in_right x [] ys h = h
in_right x (y ∷ xs) ys h = inr (in_right x xs ys h)

in_map : {A B : Type 0} (f : A → B) (x : A) (xs : List A) → In x xs → In (f x) (map f xs)
in_map f x [] h = absurd h
in_map f x (y ∷ xs) h = ⊎_elim (λ e. inl (λ i. f (e i))) (λ m. inr (in_map f x xs m)) h

abbrev pairs_in : List Entity → List Entity → List Id
pairs_in [] ts = []
pairs_in (r ∷ rs) ts = map (Two r) ts ++ pairs_in rs ts

pair_in : (r t : Entity) (rs ts : List Entity) → In r rs → In t ts → In (Two r t) (pairs_in rs ts)
pair_in r t [] ts h k = absurd h
pair_in r t (x ∷ rs) ts h k =
    ⊎_elim (λ e. in_left (Two r t) (map (Two x) ts) _ (subst (λ y. In (Two r t) (map (Two y) ts)) (sym e) (in_map (Two r) t ts k)))
    (λ m. in_right (Two r t) (map (Two x) ts) _ (pair_in r t rs ts m k)) h

-- all ids that name the living
abbrev the_ids : WorldState → List Id
the_ids w = map One (the_living w) ++ pairs_in (the_living w) (the_living w)

id_in : (w : WorldState) (i : Id) → IsTrue (names_living w i) → In i (the_ids w)
id_in w (One e) h = in_left (One e) (map One (the_living w)) _ (in_map One e (the_living w) (living_in w e h))
id_in w (Two r t) h = grind (arith, common_steps, in_right, the_living, pair_in, living_in, first, second)

decide_id : (i j : Id) → Decided (i ≡ j)
decide_id i j = decide_as (id_eq_is i j) (λ e. subst (λ x. IsTrue (id_eq i x)) e (id_eq_itself i)) (decide_bool (id_eq i j))

decide_brings : (w : WorldState) (j k : Id) → Decided (Brings w j k)
decide_brings w (One c) (One x) = decide_bool (has w c (Two WITH x))
decide_brings w (One c) (Two x t) = inr (λ h. h)
decide_brings w (Two r t) (One x) = inr (λ h. h)
decide_brings w (Two r t) (Two x u) = decide_both (decide_bool (has w r (Two WITH x))) (same_or_apart u t)

module _ (w : WorldState) (l : IsLawful w) where
  -- the target of what an entity has lives
  target_lives : (e r t : Entity) → IsTrue (has w e (Two r t)) → IsTrue (is_alive w t)
  target_lives e r t h = second (is_alive w r) _ (l.orderly.living e (Two r t) h)

  closure_listed : (i : Id) → IsTrue (names_living w i) → (s : List Id) × IsClosure w i s
  closure_listed i h =
      let all = listed (λ j. j ≡ i) (Brings w) (λ j. decide_id j i) (decide_brings w) (the_ids w) (λ j m. id_in w j (closure_lives w i l.orderly h m)) in
      let up = sorted id_cmp_total same_id all.0 in
      (up.0, record { ascending = up.1; exact = λ j. (λ m. (all.1 j).0 ((up.2 j).0 m), λ m. (up.2 j).1 ((all.1 j).1 m)) })

  reached_lives : (r a : Entity) → IsTrue (is_alive w a) → {b : Entity} → Reaches w r a b → IsTrue (is_alive w b)
  reached_lives r a h (root e) = subst (λ x. IsTrue (is_alive w x)) (sym e) h
  reached_lives r a h (next {a = c} {b = d} walk edge) = target_lives c r d edge

  decide_reaches : (r a b : Entity) → IsTrue (is_alive w a) → Decided (Reaches w r a b)
  decide_reaches r a b h =
      let leads : (c d : Entity) → Decided (IsTrue (has w c (Two r d))) = λ c d. decide_bool (has w c (Two r d)) in
      let lives : (c : Entity) → Reaches w r a c → In c (the_living w) = λ c m. living_in w c (reached_lives r a h m) in
      let all = listed (λ c. c ≡ a) (λ c d. IsTrue (has w c (Two r d))) (λ c. same_or_apart c a) leads (the_living w) lives in
      decide_as (all.1 b).0 (all.1 b).1 (decide_in same_or_apart b all.0)

  module _ (e : Entity) (s : List Id) (lives : (j : Id) → IsTrue (has_item id_cmp s j) → IsTrue (names_living w j)) where
    decide_cycle : (r : Entity) → Decided (ClosesCycle w e s r)
    decide_cycle r =
        let alive : (t : Entity) → IsTrue (has_item id_cmp s (Two r t)) → IsTrue (is_alive w t) = λ t h. second (is_alive w r) _ (lives (Two r t) h) in
        decide_as (λ c. (c.0, c.1.0, c.1.1.0, c.1.1.1)) (λ c. (c.0, (c.1, (c.2, c.3))))
        (decide_both (decide_bool (is_acyclic w r))
        (some_of (λ t. IsTrue (has_item id_cmp s (Two r t)) × Reaches w r t e)
        (λ t. decide_then (decide_bool (has_item id_cmp s (Two r t))) (λ h. decide_reaches r t e (alive t h)))
        (the_living w) (λ t h. living_in w t (alive t h.0))))

    first_cycle : (cycle : Option Entity) × IsFirstCycle w e s cycle
    first_cycle =
        ⊎_elim (λ r. (Some r.0, (r.1.passes, r.1.least))) (λ none. (None, none))
        (least_of entity_cmp_total (ClosesCycle w e s) decide_cycle (the_living w) (λ r c. living_in w r (has_alive w r (One ACYCLIC) c.0)))

    abbrev HasCycle : WorldState → Option Refusal → Type 0
    HasCycle after v = (cycle : Option Entity) × IsFirstCycle w e s cycle × (v ≡ verdict_of (has_clash after) cycle)

    judged : (after : WorldState) → (verdict : Option Refusal) × Judges w e s after verdict
    judged after = by (list_any is_wrong_policy s) (list_any (is_late w e s) (late_traits w.edition))
      where
        by : (b c : Bool) → (v : Option Refusal) × MatchBool b (v ≡ Some NotAPolicy) (MatchBool c (v ≡ Some InUse) (HasCycle after v))
        by true c = (Some NotAPolicy, refl)
        by false true = (Some InUse, refl)
        by false false = (verdict_of (has_clash after) first_cycle.0, (first_cycle.0, first_cycle.1, refl))

  pub extends_end : (e : Entity) (i : Id) (besides : Record → Record) → IsTrue (names_living w i) → End (Extends w e i besides)
  extends_end e i besides h =
      let s = closure_listed i h in
      let v = judged e s.0 (λ j m. closure_lives w i l.orderly h ((s.1.exact j).0 m)) (grown w e i s.0) in
      let end = unless w v.0 (Answers {A = Unit {0}} tt (changed (grown w e i s.0) e besides)) (λ _. done tt (changed (grown w e i s.0) e besides)) in
      (end.0, end.1, (s.0, s.1, v.0, v.1, end.2))
