-- What a system's commands touch lies in its closed writes.
use Rattle.eco_systems.proofs.Common.{◌≡◌, Bool, true, false, cond, List, [], ◌∷◌, refl, sym, ap, ◌∙◌, subst, true≢false, IsTrue, ◌⊎◌}
use Rattle.eco_systems.proofs.Common.{inl, inr, list_any, Entity, EXCLUSIVE, SYMMETRIC, WITH, Id, Is, Each, Any, Pattern, One, Two, First, Second}
use Rattle.eco_systems.proofs.Common.{has_symmetric, root, next, part_matches, pattern_matches, pattern_overlaps, entity_eq, Command, Create, Add, Remove, Set}
use Rattle.eco_systems.proofs.Common.{Clear, Rename, Delete, DeleteWith, RemoveAll, Brings, InClosure, WorldState, has, is_symmetric, is_widened, both, first}
use Rattle.eco_systems.proofs.Common.{second, any_is, or_left, or_parts, or_right, entity_eq_is, entity_eq_itself, overlaps_exactly, Disturbs, SystemModel}
use Rattle.eco_systems.proofs.Common.{IsDeclared, matches_one, system_reads, is_builtin_trait, SomeOf, InClosedPatterns, widened, IsClosedWrite, writes_trait}
use Rattle.eco_systems.proofs.Common.{IsTraitWriter, Result, Refusal, Applies}
use Rattle.eco_ids.specs.declared.pattern.Part.{Part}
use Rattle.eco_ids.specs.declared.edition.Edition.{Edition}
use Rattle.eco_ids.proofs.Meaning.{closure_least}
use Rattle.eco_systems.proofs.Steps.{Touches, Given, Goes, IsTwin, Leads, makes_alive_effect, adds_effect, removes_effect, sets_effect, clears_effect}
use Rattle.eco_systems.proofs.Steps.{renames_effect, deletes_one_effect, deletes_with_effect, removes_all_effect}
use Rattle.eco_ids.specs.declared.id.Id.TheVariants as id

-- ---- traits

-- an id that makes a closure, an eviction or a mirror: Exclusive, a pair of With, or Symmetric, where the edition has it
abbrev pub IsTraitId : Edition → Id → Type 0
IsTraitId edition (id.One e) = (e ≡ EXCLUSIVE) ⊎ (IsTrue (has_symmetric edition) × (e ≡ SYMMETRIC))
IsTraitId edition (id.Two r t) = r ≡ WITH

-- the edition is that of the frame's start, and whoever has such an id had it then
abbrev pub TraitsWithin : WorldState → WorldState → Type 0
TraitsWithin start w = (w.edition ≡ start.edition) × ((x : Entity) (j : Id) → IsTraitId start.edition j → IsTrue (has w x j) → IsTrue (has start x j))

-- so what was symmetric then is so now
symmetric_within : (start w : WorldState) (r : Entity) → TraitsWithin start w → IsTrue (is_symmetric w r) → IsTrue (is_symmetric start r)
symmetric_within start w r within h =
    let has_it : IsTrue (has_symmetric start.edition) = sym (ap has_symmetric within.0) ∙ first (has_symmetric w.edition) _ h in
    both (has_symmetric start.edition) _ has_it (within.1 r (id.One SYMMETRIC) (inr (has_it, refl)) (second (has_symmetric w.edition) _ h))

-- a pattern of such an id writes traits, in each edition
single_trait : (edition : Edition) (e : Entity) → IsTraitId edition (id.One e) → IsTrue (writes_trait edition (One e))
single_trait First e (inl is) = rw is refl
single_trait Second e (inl is) = rw is refl
single_trait First e (inr trait) = absurd (true≢false (sym trait.0))
single_trait Second e (inr trait) = rw trait.1 refl

with_trait : (edition : Edition) → IsTrue (is_builtin_trait edition WITH)
with_trait First = refl
with_trait Second = refl

-- ---- the closure of an id lies in the closure of its pattern

-- a closed pattern, not widened yet, matches
abbrev Covered : WorldState → List Pattern → Id → Type 0
Covered start writes j = (q : Pattern) × InClosedPatterns start writes q × IsTrue (pattern_matches q j)

-- patterns of which none writes a trait
abbrev pub NoTraits : WorldState → List Pattern → Type 0
NoTraits start writes = (p : Pattern) → IsClosedWrite start writes p → IsTrue (writes_trait start.edition p) → ⊥

pub no_traits : (start : WorldState) (s : SystemModel) → (IsTraitWriter start s → ⊥) → NoTraits start s.writes
no_traits start s n p closed writes = n (p, closed, writes)

written : (writes : List Pattern) (i : Id) → IsTrue (matches_one writes i) → (q : Pattern) × SomeOf (λ p. p ≡ q) writes × IsTrue (pattern_matches q i)
written [] i h = absurd (true≢false (sym h))
written (p ∷ ps) i h =
    elim (or_parts (pattern_matches p i) (matches_one ps i) h) as (λ _. (q : Pattern) × SomeOf (λ x. x ≡ q) (p ∷ ps) × IsTrue (pattern_matches q i)) [
      | inl m ↦ (p, inl refl, m)
      | inr m ↦ let rest = written ps i m in (rest.0, inr rest.1, rest.2)
    ]

module _ (start : WorldState) (writes : List Pattern) where
  begins : (i : Id) → IsTrue (matches_one writes i) → Covered start writes i
  begins i h = let q = written writes i h in (q.0, root q.1, q.2)

  module _ (plain : NoTraits start writes) where
    -- a pattern of pairs of any relationship writes traits
    not_each : (u : Part) → InClosedPatterns start writes (Two Each u) → ⊥
    not_each u h = plain (Two Each u) (Two Each u, h, refl) refl

    not_any : (u : Part) → InClosedPatterns start writes (Two Any u) → ⊥
    not_any u h = plain (Two Any u) (Two Any u, h, refl) refl

    brought : (w : WorldState) → TraitsWithin start w → (q : Pattern) (j k : Id) → InClosedPatterns start writes q → IsTrue (pattern_matches q j) →
        Brings w j k → Covered start writes k
    brought w within (One own) (id.One c) (id.One x) member m brings = (
      One x,
      next member (subst (λ y. IsTrue (has start y (id.Two WITH x))) (sym (entity_eq_is own c m)) (within.1 c (id.Two WITH x) refl brings)),
      entity_eq_itself x,
    )
    brought w within (One own) (id.Two r t) k member m brings = absurd (true≢false (sym m))
    brought w within (Two p u) (id.One c) k member m brings = absurd (true≢false (sym m))
    brought w within (Two Each u) (id.Two r t) k member m brings = absurd (not_each u member)
    brought w within (Two Any u) (id.Two r t) k member m brings = absurd (not_any u member)
    brought w within (Two (Is own) u) (id.Two r t) (id.Two x v) member m brings = (
      Two (Is x) u,
      next member (
        subst (λ y. IsTrue (has start y (id.Two WITH x))) (sym (entity_eq_is own r (first _ _ m)))
            (within.1 r (id.Two WITH x) refl brings.0),
        refl,
      ),
      both _ _ (entity_eq_itself x) (subst (λ y. IsTrue (part_matches u y)) (sym brings.1) (second (entity_eq own r) _ m)),
    )
    brought w within _ _ _ member m brings = absurd brings

    closure_covered : (w : WorldState) → TraitsWithin start w → (i : Id) → IsTrue (matches_one writes i) → (j : Id) → InClosure w i j
        → Covered start writes j
    closure_covered w within i here = closure_least w i (Covered start writes) (begins i here) (λ j k c b. brought w within c.0 j k c.1 c.2 b)

    -- no trait comes by such an add
    no_trait_added : (q : Pattern) (j : Id) → InClosedPatterns start writes q → IsTrue (pattern_matches q j) → IsTraitId start.edition j → ⊥
    no_trait_added (One own) (id.One e) member m trait =
        plain (One own) (One own, member, refl)
        (subst (λ y. IsTrue (writes_trait start.edition (One y))) (sym (entity_eq_is own e m)) (single_trait start.edition e trait))
    no_trait_added (One own) (id.Two r t) member m trait = absurd (true≢false (sym m))
    no_trait_added (Two p u) (id.One e) member m trait = absurd (true≢false (sym m))
    no_trait_added (Two Each u) (id.Two r t) member m trait = not_each u member
    no_trait_added (Two Any u) (id.Two r t) member m trait = not_any u member
    no_trait_added (Two (Is own) u) (id.Two r t) member m trait =
        plain (widened start (Two (Is own) u)) (Two (Is own) u, member, refl) (still_trait (is_widened start own) (entity_eq_is own r (first _ _ m) ∙ trait))
      where
        still_trait : (b : Bool) → own ≡ WITH → IsTrue (writes_trait start.edition (cond b (Two (Is own) Each) (Two (Is own) u)))
        still_trait true e = subst (λ y. IsTrue (writes_trait start.edition (Two (Is y) Each))) (sym e) (or_left _ _ (with_trait start.edition))
        still_trait false e = subst (λ y. IsTrue (writes_trait start.edition (Two (Is y) u))) (sym e) (or_left _ _ (with_trait start.edition))

  -- ---- a widened pattern matches what it matched

  widened_matches : (q : Pattern) (j : Id) → IsTrue (pattern_matches q j) → IsTrue (pattern_matches (widened start q) j)
  widened_matches (One e) j m = m
  widened_matches (Two Each u) j m = m
  widened_matches (Two Any u) j m = m
  widened_matches (Two (Is r) u) j m = wide (is_widened start r) j m
    where
      wide : (b : Bool) (j : Id) → IsTrue (pattern_matches (Two (Is r) u) j) → IsTrue (pattern_matches (cond b (Two (Is r) Each) (Two (Is r) u)) j)
      wide true (id.One e) m = m
      wide true (id.Two q t) m = both _ _ (first (entity_eq r q) _ m) refl
      wide false j m = m

  abbrev pub Written : Id → Type 0
  Written j = (p : Pattern) × IsClosedWrite start writes p × IsTrue (pattern_matches p j)

  written_closed : (j : Id) → Covered start writes j → Written j
  written_closed j c = (widened start c.0, (c.0, c.1, refl), widened_matches c.0 j c.2)

  -- what is evicted, and a mirror, matches the pattern that brought the relationship, once it is widened
  evicted_written : NoTraits start writes → (r t u : Entity) → IsTrue (is_widened start r) → Covered start writes (id.Two r u) → Written (id.Two r t)
  evicted_written plain r t u wide c = go c.0 c.1 c.2
    where
      go : (q : Pattern) → InClosedPatterns start writes q → IsTrue (pattern_matches q (id.Two r u)) → Written (id.Two r t)
      go (One e) member m = absurd (true≢false (sym m))
      go (Two Each v) member m = absurd (not_each plain v member)
      go (Two Any v) member m = absurd (not_any plain v member)
      go (Two (Is own) v) member m =
          let is : own ≡ r = entity_eq_is own r (first _ _ m) in (
            widened start (Two (Is own) v),
            (Two (Is own) v, member, refl),
            subst (λ b. IsTrue (pattern_matches (cond b (Two (Is own) Each) (Two (Is own) v)) (id.Two r t))) (sym (ap (is_widened start) is ∙ wide))
                (both _ _ (first (entity_eq own r) _ m) refl),
          )

  -- a pair of the same symmetric relationship
  twin_written : NoTraits start writes → (w : WorldState) → TraitsWithin start w → (i : Id) → IsTrue (matches_one writes i) → (j : Id)
      → IsTwin w i j
      → Written j
  twin_written plain w within (id.Two r t) here (id.Two q u) h =
      subst (λ y. Written (id.Two y u)) (sym h.1)
      (evicted_written plain r u t (or_left _ _ (symmetric_within start w r within h.0)) (begins (id.Two r t) here))
  twin_written plain w within _ here _ h = absurd h

  goes_written : NoTraits start writes → (w : WorldState) → TraitsWithin start w → (i : Id) → IsTrue (matches_one writes i) → (j : Id)
      → Goes w i j → Written j
  goes_written plain w within i here j (inl h) = subst Written (sym h) (written_closed i (begins i here))
  goes_written plain w within i here j (inr h) = twin_written plain w within i here j h

  touches_written : NoTraits start writes → (w : WorldState) → TraitsWithin start w → (i : Id) → IsTrue (matches_one writes i) → (j : Id) →
      Touches w i j →
      Written j
  touches_written plain w within i here j (inl h) = written_closed j (closure_covered plain w within i here j h)
  touches_written plain w within i here (id.One e) (inr (inl h)) = absurd h
  touches_written plain w within i here (id.Two r t) (inr (inl h)) =
      evicted_written plain r t h.1 (or_right (is_symmetric start r) _ (within.1 r (id.One EXCLUSIVE) (inl refl) h.0))
      (closure_covered plain w within i here (id.Two r h.1) h.2)
  touches_written plain w within i here j (inr (inr h)) = twin_written plain w within i here j h

  given_no_trait : NoTraits start writes → (w : WorldState) → TraitsWithin start w → (i : Id) → IsTrue (matches_one writes i) → (j : Id) →
      IsTraitId start.edition j → Given w i j → ⊥
  given_no_trait plain w within i here j trait (inl h) = let c = closure_covered plain w within i here j h in no_trait_added plain c.0 j c.1 c.2 trait
  given_no_trait plain w within (id.One c) here j trait (inr h) = h
  given_no_trait plain w within (id.Two r t) here (id.One x) trait (inr h) = h
  given_no_trait plain w within (id.Two r t) here (id.Two q u) trait (inr h) =
      let c = begins (id.Two r t) here in no_trait_added plain c.0 (id.Two r t) c.1 c.2 (sym h.1 ∙ trait)

  -- ---- what a system's command leads to

  -- what is touched is written, and what is given is no trait
  wider : {kills : Bool} {w : WorldState} {T G : Id → Type 0} {Step : Result (Unit {0}) Refusal → WorldState → Type 0}
      → ((j : Id) → T j → Written j) → ((j : Id) → IsTraitId start.edition j → G j → ⊥) →
      Leads kills w T G Step → Leads kills w Written (λ j. IsTraitId start.edition j → ⊥) Step
  wider {w = w} {G = G} within plain effect = record {
    at = λ r new h. let x = effect.at r new h in record {
      edition = x.edition;
      arity = x.arity;
      held = λ tame y j n. x.held tame y j (λ k. n (within j k));
      gains = λ y j k. given y j (x.gains y j k);
    };
  }
    where
      given : (y : Entity) (j : Id) → IsTrue (has w y j) ⊎ G j → IsTrue (has w y j) ⊎ (IsTraitId start.edition j → ⊥)
      given y j (inl a) = inl a
      given y j (inr g) = inr (λ trait. plain j trait g)

  pub applies_effect : NoTraits start writes → {kills : Bool} (w : WorldState) → TraitsWithin start w → (c : Command) → IsDeclared writes kills c →
      Leads kills w Written (λ j. IsTraitId start.edition j → ⊥) (Applies c w)
  applies_effect plain w within (Create e) d = makes_alive_effect w e
  applies_effect plain w within (Add e i) d =
      wider (touches_written plain w within i d) (given_no_trait plain w within i d) (adds_effect w e i)
  applies_effect plain w within (Remove e i) d = wider (goes_written plain w within i d) (λ j trait none. none) (removes_effect w e i)
  applies_effect plain w within (Set e i v) d =
      wider (touches_written plain w within i d) (given_no_trait plain w within i d) (sets_effect w e i v)
  applies_effect plain w within (Clear e) d = clears_effect d w e
  applies_effect plain w within (Rename e name) d = renames_effect w e name
  applies_effect plain w within (Delete e) d = deletes_one_effect d w e
  applies_effect plain w within (DeleteWith i) d = deletes_with_effect d w i
  applies_effect plain w within (RemoveAll i) d = wider (goes_written plain w within i d) (λ j trait none. none) (removes_all_effect w i)

-- ---- what is read is not touched

overlaps_one : (p : Pattern) (reads : List Pattern) (j : Id) → IsTrue (pattern_matches p j) → IsTrue (matches_one reads j) →
    IsTrue (list_any (pattern_overlaps p) reads)
overlaps_one p reads j m h = let r = any_is (λ q. pattern_matches q j) reads h in r.2 (pattern_overlaps p) ((overlaps_exactly p r.0).1 (j, m, r.1))

pub read_untouched : (start : WorldState) (s t : SystemModel) → (Disturbs start s t → ⊥) → (j : Id) → IsTrue (matches_one (system_reads t) j) →
    Written start s.writes j → ⊥
read_untouched start s t apart j read p = apart (p.0, p.1, overlaps_one p.0 (system_reads t) j p.2 read)
