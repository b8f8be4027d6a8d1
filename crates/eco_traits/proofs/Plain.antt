-- An id that comes alone, replaces nothing, and against which nothing stands.
use Rattle.eco_traits.proofs.Common.{common_steps, arith, ◌≡◌, Bool, true, false, cond, not, ◌&&◌, ◌||◌, inl, inr, List, [], ◌∷◌, filter}
use Rattle.eco_traits.proofs.Common.{refl, sym, ap, subst, ◌∙◌, true≢false, IsTrue, Some, None, Option, Ok, option_map, list_any, and_right}
use Rattle.eco_traits.proofs.Common.{same_relationship, same_id, Entity, ACYCLIC, EXCLUSIVE, SYMMETRIC, WITH, Id, One, Two, id_cmp, entity_eq, has_item}
use Rattle.eco_traits.proofs.Common.{is_ascending, with_item, IsClosure, ClosesCycle, Judges, grown, is_late, is_replaced, is_used, is_wrong_policy, WorldState}
use Rattle.eco_traits.proofs.Common.{Record, has, is_acyclic, is_alive, is_exclusive, is_symmetric, names_living, record_of, head_of, Edition, has_symmetric}
use Rattle.eco_traits.proofs.Common.{late_traits, has_clash, mirror_of, mirrored_pair, would_be_barred, both, first, second, or_parts, entity_eq_is}
use Rattle.eco_traits.proofs.Common.{entity_eq_itself, BringsNone, IsPlain, IsSound, AddLeadsTo, ties, type_of_record}
use Rattle.std.specs.Prelude.{unwrap_or}
use Rattle.eco_traits.specs.Prospect.{IsToldAlone}
use Rattle.eco_ids.specs.declared.edition.Edition.TheVariants.{First, Second}
use Rattle.eco_ids.proofs.Clashes.{IsQuiet, clash_is_local, quiet_grows}
use Rattle.eco_traits.proofs.Members.{only}
use Rattle.eco_traits.proofs.Traits.{not_so}
use Rattle.eco_traits.proofs.Closures.{closure_alone}
use Rattle.eco_traits.proofs.Joined.{leads_to, some_record}
use Rattle.eco_traits.proofs.Verdicts.{judged_cycle}
use Rattle.eco_traits.proofs.Walks.{has_listed}

-- these are the ids of the entity of a single id, or of the relationship of a pair
abbrev pub AreTraitsOf : WorldState → Id → List Id → Type 0
AreTraitsOf w i ids = Some ids ≡ option_map type_of_record (record_of w (head_of i))

-- it lives where each entity in the id does
pub head_lives : (w : WorldState) (i : Id) → names_living w i ≡ true → is_alive w (head_of i) ≡ true
head_lives w (One e) h = h
head_lives w (Two r t) h = first _ _ h

-- nothing comes along
pub comes_alone : (w : WorldState) (i : Id) (ids : List Id) → AreTraitsOf w i ids → BringsNone ids → IsClosure w i (i ∷ [])
comes_alone w i ids own none = closure_alone w i (λ x h. true≢false (sym h ∙ has_listed w (head_of i) (Two WITH x) ids own ∙ none x))

-- nothing is replaced
replaces_none : (w : WorldState) (i : Id) (ids : List Id) → AreTraitsOf w i ids → IsPlain w.edition i ids → (j : Id)
    → is_replaced w (i ∷ []) j ≡ false
replaces_none w (One c) ids own plain (One e) = refl
replaces_none w (One c) ids own plain (Two q u) = and_right (is_exclusive w q) false refl
replaces_none w (Two r t) ids own plain (One e) = refl
replaces_none w (Two r t) ids own plain (Two q u) =
    not_so (is_replaced w (Two r t ∷ []) (Two q u)) (λ h.
    let rest = second (is_exclusive w q) _ h in
    let pair = or_parts (entity_eq q r) false (first (entity_eq q r || false) _ rest) in
    elim pair as (λ _. ⊥) [
      | inl k ↦ true≢false (sym (subst (λ y. IsTrue (is_exclusive w y)) (entity_eq_is q r k) (first (is_exclusive w q) _ h))
          ∙ has_listed w r (One EXCLUSIVE) ids own ∙ plain.1.0)
      | inr k ↦ true≢false (sym k)
    ])

keeps_all : (w : WorldState) (i : Id) → ((j : Id) → is_replaced w (i ∷ []) j ≡ false) → (own : List Id)
    → own ≡ filter (λ j. not (is_replaced w (i ∷ []) j)) own
keeps_all w i none [] = refl
keeps_all w i none (x ∷ xs) = grind (arith, common_steps, keeps_all w i none xs)

-- nothing stands against it
pub alone_judged : (w : WorldState) (e : Entity) (i : Id) → list_any is_wrong_policy (i ∷ []) ≡ false
    → list_any (is_late w e (i ∷ [])) (late_traits w.edition) ≡ false → ((r : Entity) → ClosesCycle w e (i ∷ []) r → ⊥)
    → has_clash (grown w e i (i ∷ [])) ≡ false → Judges w e (i ∷ []) (grown w e i (i ∷ [])) None
alone_judged w e i policy late open_end calm = judged_cycle w e (i ∷ []) (grown w e i (i ∷ [])) None false None policy late open_end calm refl

-- no trait comes too late where none comes
pub pair_late : (w : WorldState) (e r t : Entity) → list_any (is_late w e (Two r t ∷ [])) (late_traits w.edition) ≡ false
pair_late w e r t = by w.edition
  where
    by : (d : Edition) → list_any (is_late w e (Two r t ∷ [])) (late_traits d) ≡ false
    by First = refl
    by Second = refl

-- a pair of another relationship than With is quiet
pair_quiet : (w : WorldState) (r t : Entity) → (has_symmetric w.edition && entity_eq r WITH) ≡ false → IsTrue (has_symmetric w.edition)
    → IsQuiet (Two r t ∷ [])
pair_quiet w r t apart has_it = record {
  exclusive = refl;
  acyclic = refl;
  symmetric = refl;
  with = λ x. not_so (has_item id_cmp (Two r t ∷ []) (Two WITH x)) (λ h.
      let is : r ≡ WITH = same_relationship (only same_id (Two r t) (Two WITH x) h) in
      true≢false (sym (both (has_symmetric w.edition) _ has_it (subst (λ y. IsTrue (entity_eq y WITH)) (sym is) (entity_eq_itself WITH))) ∙ apart));
}

-- a pair that ties no symmetric relationship to another makes nothing clash
pub pair_calm : (w : WorldState) (e r t : Entity) (own : List Id) → Some own ≡ option_map type_of_record (record_of w e)
    → IsClosure w (Two r t) (Two r t ∷ [])
    → names_living w (Two r t) ≡ true → IsSound w → ties w own r t ≡ false → has_clash (grown w e (Two r t) (Two r t ∷ [])) ≡ false
pair_calm w e r t own owns closure lives sound free = by (has_symmetric w.edition && entity_eq r WITH) refl
  where
    -- neither is symmetric
    neither : (has_it holder barred with target : Bool) → (holder || target) ≡ false →
        (has_it && (((holder || false) && barred) || ((with && (has_it && target)) || false))) ≡ false
    neither has_it true barred with target h = absurd (true≢false h)
    neither has_it false barred with true h = absurd (true≢false h)
    neither false false barred with false h = refl
    neither true false barred true false h = refl
    neither true false barred false false h = refl

    by : (b : Bool) → (has_symmetric w.edition && entity_eq r WITH) ≡ b → has_clash (grown w e (Two r t) (Two r t ∷ [])) ≡ false
    by false h = let d = some_record (record_of w e) own owns in quiet_grows w e (Two r t) (Two r t ∷ []) d.0 d.1 closure lives sound (pair_quiet w r t h)
    by true h =
        let d = some_record (record_of w e) own owns in
        clash_is_local w e (Two r t) (Two r t ∷ []) d.0 d.1 closure lives sound
        ∙ neither (has_symmetric w.edition) (has w e (One SYMMETRIC)) (would_be_barred w e (Two r t ∷ [])) (entity_eq r WITH) (has w t (One SYMMETRIC))
        (ap (λ a. a || has w t (One SYMMETRIC)) (has_listed w e (One SYMMETRIC) own owns)
        ∙ sym (ap (λ c. c && (has_item id_cmp own (One SYMMETRIC) || has w t (One SYMMETRIC))) h) ∙ free)

module _ (w : WorldState) (e c : Entity) (excl : entity_eq c EXCLUSIVE ≡ false) (acyc : entity_eq c ACYCLIC ≡ false)
    (symm : (has_symmetric w.edition && entity_eq c SYMMETRIC) ≡ false) where
  not_late : (x : Entity) → entity_eq c x ≡ false → is_late w e (One c ∷ []) x ≡ false
  not_late x h = ap (λ b. (b || false) && (not (has w e (One x)) && is_used w e)) h

  single_late : list_any (is_late w e (One c ∷ [])) (late_traits w.edition) ≡ false
  single_late = by w.edition symm
    where
      both_false : (a b : Bool) → a ≡ false → b ≡ false → (a || b) ≡ false
      both_false true b p q = absurd (true≢false p)
      both_false false b p q = q

      by : (d : Edition) → (has_symmetric d && entity_eq c SYMMETRIC) ≡ false → list_any (is_late w e (One c ∷ [])) (late_traits d) ≡ false
      by First h = both_false _ _ (not_late EXCLUSIVE excl) (both_false _ _ (not_late ACYCLIC acyc) refl)
      by Second h = both_false _ _ (not_late EXCLUSIVE excl) (both_false _ _ (not_late ACYCLIC acyc) (both_false _ _ (not_late SYMMETRIC h) refl))

  single_quiet : IsTrue (has_symmetric w.edition) → IsQuiet (One c ∷ [])
  single_quiet has_it = record {
    exclusive = ap (λ b. b || false) excl;
    acyclic = ap (λ b. b || false) acyc;
    symmetric = ap (λ b. b || false) (not_so (entity_eq c SYMMETRIC) (λ h. true≢false (sym (both (has_symmetric w.edition) _ has_it h) ∙ symm)));
    with = λ x. refl;
  }

-- nothing comes along with a plain id
plain_alone : (w : WorldState) (i : Id) (ids : List Id) → AreTraitsOf w i ids → IsPlain w.edition i ids → IsClosure w i (i ∷ [])
plain_alone w (One c) ids own plain = comes_alone w (One c) ids own plain.1
plain_alone w (Two r t) ids own plain = comes_alone w (Two r t) ids own plain.1.2

unopposed : (w : WorldState) (e : Entity) (i : Id) (ids : List Id) (d : Record) → record_of w e ≡ Some d → names_living w i ≡ true → IsSound w →
    AreTraitsOf w i ids → IsPlain w.edition i ids → Judges w e (i ∷ []) (grown w e i (i ∷ [])) None
unopposed w e (One c) ids d at lives sound own plain =
    alone_judged w e (One c) refl (single_late w e c plain.0.0 plain.0.1 plain.0.2) (λ r closes. true≢false (sym closes.2))
    (quiet_grows w e (One c) (One c ∷ []) d at (plain_alone w (One c) ids own plain) lives sound (single_quiet w e c plain.0.0 plain.0.1 plain.0.2))
unopposed w e (Two r t) ids d at lives sound own plain =
    alone_judged w e (Two r t) (ap (λ b. b || false) plain.0) (pair_late w e r t)
    (λ q closes.
    let same : r ≡ q = same_relationship (only same_id (Two r t) (Two q closes.1) closes.2) in
    true≢false (sym (subst (λ y. IsTrue (is_acyclic w y)) (sym same) closes.0) ∙ has_listed w r (One ACYCLIC) ids own ∙ plain.1.1))
    (quiet_grows w e (Two r t) (Two r t ∷ []) d at (plain_alone w (Two r t) ids own plain) lives sound (pair_quiet w r t plain.2))

-- it goes to its place
pub plain_leads_to : (w : WorldState) (e : Entity) (i : Id) (ids own all : List Id) → names_living w i ≡ true → has w e i ≡ false → IsSound w
    → AreTraitsOf w i ids
    → IsPlain w.edition i ids
    → Some own ≡ option_map type_of_record (record_of w e) → IsTrue (is_ascending id_cmp own) → all ≡ with_item id_cmp own i
    → AddLeadsTo w e i (Ok all)
plain_leads_to w e i ids own all lives absent sound traits plain owns up is_all =
    let d = some_record (record_of w e) own owns in
    leads_to w e i (i ∷ []) own own all None lives absent (plain_alone w i ids traits plain)
    (unopposed w e i ids d.0 d.1 lives sound traits plain) refl owns up
    (keeps_all w i (replaces_none w i ids traits plain) own) is_all

-- and nobody gets a mirror
pub plain_unmirrored : (w : WorldState) (e : Entity) (i : Id) (ids : List Id) → AreTraitsOf w i ids → IsPlain w.edition i ids → mirror_of w e i ≡ None
plain_unmirrored w e (One c) ids own plain = by (has_symmetric w.edition)
  where
    by : (b : Bool) → (let m : Option (Entity × Id) = cond b (mirrored_pair w e (One c)) None in m ≡ None)
    by true = refl
    by false = refl
plain_unmirrored w e (Two r t) ids own plain =
    by (has_symmetric w.edition) (is_symmetric w r)
    (ap (λ b. has_symmetric w.edition && b) (has_listed w r (One SYMMETRIC) ids own) ∙ plain.1.3)
  where
    by : (b c : Bool) → c ≡ false → (let m : Option (Entity × Id) = cond b (cond c (Some (t, Two r e)) None) None in m ≡ None)
    by b true h = absurd (true≢false h)
    by true false h = refl
    by false false h = refl

-- what the ids of its own entity don't tell nothing tells
pub not_told : (w : WorldState) (i : Id) (ids : List Id) → AreTraitsOf w i ids → (IsPlain w.edition i ids → ⊥) → IsToldAlone w i → ⊥
not_told w i ids own other told =
    other (subst (IsPlain w.edition i) (ap (λ (o : Option (List Id)). unwrap_or o []) (told.1 ∙ sym own)) told.2)
