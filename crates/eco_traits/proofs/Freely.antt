-- A single id that comes with what it brings, where nothing stands against that.
use Rattle.eco_traits.proofs.Common.{◌≡◌, ℕ, ◌+◌, ◌<◌, Bool, true, false, cond, not, ◌&&◌, ◌||◌, inl, inr, List, [], ◌∷◌, filter, fold, length, take}
use Rattle.eco_traits.proofs.Common.{get_or, refl, sym, ap, ◌∙◌, subst, true≢false, IsTrue, Option, Some, None, Ok, list_any, or-false, or_comm, and_right}
use Rattle.eco_traits.proofs.Common.{both, second, any_is, id_eq_is, id_eq_itself, or_parts, entity_eq_itself, id_cmp_total, same_id}
use Rattle.eco_traits.proofs.Common.{same_members, joins_with, Edition, Entity, ACYCLIC, EXCLUSIVE, SYMMETRIC, WITH, Id, One, Two, id_cmp, id_eq, entity_eq}
use Rattle.eco_traits.proofs.Common.{has_item, is_ascending, with_item, has_symmetric, late_traits, IsClosure, Judges, grown, is_late}
use Rattle.eco_traits.proofs.Common.{is_pair_of, is_replaced, is_used, is_wrong_policy, WorldState, Record, has, is_exclusive, names_living, record_of}
use Rattle.eco_traits.proofs.Common.{HasBrought, HasGiven, gives, head_of, target_by_pair, entity_eq_is, AddLeadsTo, BringFreely, ComesFreely, IsNoTrait}
use Rattle.eco_traits.proofs.Common.{◌⊎◌, or_left, or_right, BringsTrait, IsReach}
use Rattle.eco_traits.proofs.Common.{IsSound, LacksWith, take_more, type_of_entity, AreFreeHeads, AreNoTraits, HasSameIds, entity_cmp, same_entity, with_heads}
use Rattle.eco_traits.proofs.Closures.{closure_of_heads, head_of_item}
use Rattle.eco_ids.specs.declared.edition.Edition.TheVariants.{First, Second}
use Rattle.eco_ids.proofs.Clashes.{quiet_grows}
use Rattle.eco_traits.proofs.Flat.{flat_closure, given_more, gives_target, is_by, put_ascends, put_by, put_joins}
use Rattle.eco_traits.proofs.Joined.{all_ascend, all_join, either_way, leads_to, some_record}
use Rattle.eco_traits.proofs.Members.{has_append, only}
use Rattle.eco_traits.proofs.Traits.{not_so}
use Rattle.eco_traits.proofs.Verdicts.{judged_cycle}
use Rattle.std.proofs.lemmas.List.Folds.{list_any_at}

-- ---- one id more is looked at

-- the first is there
pub brought_first : (c : Entity) (own ids : List Id) → ids ≡ with_item id_cmp own (One c) → HasBrought ids own c []
brought_first c own ids is j =
    ap (λ xs. has_item id_cmp xs j) is ∙ joins_with id_cmp_total own (One c) j ∙ turned (id_eq (One c) j) (has_item id_cmp own j)
  where
    turned : (a b : Bool) → (a || b) ≡ (b || (a || false))
    turned true true = refl
    turned true false = refl
    turned false true = refl
    turned false false = refl

-- one more is put in
pub keeps_brought : (c : Entity) (ids own traits : List Id) (k : ℕ) (d : Id) (o : Option Entity) → k < length traits
    → o ≡ target_by_pair WITH (get_or traits k d) → HasBrought ids own c (take k traits) → HasBrought (put_by (One c) ids o) own c (take (k + 1) traits)
keeps_brought c ids own traits k d o l is has j =
    let i = One c in
    put_joins i ids o j ∙ ap (λ b. is_by i j o || b) (has j)
    ∙ regroup (is_by i j o) (has_item id_cmp own j) (id_eq i j) (list_any (gives i j) (take k traits))
    ∙ ap (λ b. has_item id_cmp own j || (id_eq i j || b))
    (ap (λ p. list_any (gives i j) (take k traits) || is_by i j p) is ∙ sym (given_more i j traits k d l))
  where
    regroup : (a b c d : Bool) → (a || (b || (c || d))) ≡ (b || (c || (d || a)))
    regroup true true c d = refl
    regroup true false true d = refl
    regroup true false false true = refl
    regroup true false false false = refl
    regroup false true c d = refl
    regroup false false true d = refl
    regroup false false false true = refl
    regroup false false false false = refl

-- one more that brings freely
pub frees_more : (w : WorldState) (ids : List Id) (k : ℕ) (d : Id) → k < length ids → BringFreely w (take k ids)
    → ((x : Entity) → get_or ids k d ≡ Two WITH x → IsNoTrait w.edition x × LacksWith w x) → BringFreely w (take (k + 1) ids)
frees_more w ids k d l before here = λ x h.
    elim (or_parts (has_item id_cmp (take k ids) (Two WITH x)) (has_item id_cmp (get_or ids k d ∷ []) (Two WITH x))
    (sym (has_append id_cmp (take k ids) (get_or ids k d ∷ []) (Two WITH x))
    ∙ subst (λ xs. IsTrue (has_item id_cmp xs (Two WITH x))) (take_more ids k d l) h)) as (λ _. IsNoTrait w.edition x × LacksWith w x) [
      | inl m ↦ before x m
      | inr m ↦ here x (only same_id (get_or ids k d) (Two WITH x) m)
    ]

-- each of those that bring freely does so
pub frees_each : (w : WorldState) (ids : List Id) (k : ℕ) (d : Id) → k < length ids → BringFreely w ids
    → (x : Entity) → get_or ids k d ≡ Two WITH x → IsNoTrait w.edition x × LacksWith w x
frees_each w ids k d l free x is =
    let i = Two WITH x in
    free x (list_any_at (λ y. id_eq y i) ids k d l (subst (λ y. IsTrue (id_eq y i)) (sym is) (id_eq_itself i)))

-- ids that are put into an empty list are that list
pub put_first : (empty ids list own : List Id) → empty ≡ [] → ids ≡ own → list ≡ fold (with_item id_cmp) empty ids → IsTrue (is_ascending id_cmp own)
    → list ≡ own
put_first empty ids list own none same is up =
    is ∙ ap (λ xs. fold (with_item id_cmp) xs ids) none ∙ ap (fold (with_item id_cmp) []) same ∙ either_way [] own refl up

-- ---- the closure as a list

-- what these bring, put in one after the other
put_each : Id → List Id → List Id → List Id
put_each i ids [] = ids
put_each i ids (t ∷ ts) = put_each i (put_by i ids (target_by_pair WITH t)) ts

each_joins : (i : Id) (ids traits : List Id) (j : Id) → has_item id_cmp (put_each i ids traits) j ≡ (has_item id_cmp ids j || list_any (gives i j) traits)
unfolding put_each
each_joins i ids [] j = sym (or-false _)
each_joins i ids (t ∷ ts) j =
    each_joins i (put_by i ids (target_by_pair WITH t)) ts j
    ∙ ap (λ b. b || list_any (gives i j) ts) (put_joins i ids (target_by_pair WITH t) j ∙ ap (λ b. b || has_item id_cmp ids j) (sym (gives_target i j t)))
    ∙ regroup (gives i j t) (has_item id_cmp ids j) (list_any (gives i j) ts)
  where
    regroup : (a b c : Bool) → ((a || b) || c) ≡ (b || (a || c))
    regroup true true c = refl
    regroup true false c = refl
    regroup false true c = refl
    regroup false false c = refl

each_ascends : (i : Id) (ids traits : List Id) → IsTrue (is_ascending id_cmp ids) → IsTrue (is_ascending id_cmp (put_each i ids traits))
unfolding put_each
each_ascends i ids [] up = up
each_ascends i ids (t ∷ ts) up = each_ascends i (put_by i ids (target_by_pair WITH t)) ts (put_ascends i ids (target_by_pair WITH t) up)

is_single : Id → Bool
is_single (One c) = true
is_single (Two r t) = false

-- a single id and no trait
abbrev IsFree : WorldState → Id → Type 0
IsFree w j = (x : Entity) × (j ≡ One x) × IsNoTrait w.edition x

-- ---- a closure all of whose ids are single ones and no traits

module _ (w : WorldState) (e c : Entity) (closure : List Id) (closed : IsClosure w (One c) closure) (free : (j : Id) → IsTrue (has_item id_cmp closure j)
    → IsFree w j) where
  none_of : (p : Id → Bool) → ((x : Entity) → p (One x) ≡ false) → list_any p closure ≡ false
  none_of p none = not_so (list_any p closure) (λ h.
      let m = any_is p closure h in
      let x = free m.0 (m.2 (λ y. id_eq y m.0) (id_eq_itself m.0)) in
      true≢false (sym (subst (λ j. IsTrue (p j)) x.1 m.1) ∙ none x.0))

  no_single : (x : Entity) → (IsNoTrait w.edition x → ⊥) → has_item id_cmp closure (One x) ≡ false
  no_single x trait = not_so (has_item id_cmp closure (One x)) (λ h.
      let m = free (One x) h in trait (subst (IsNoTrait w.edition) (sym (ap head_of m.1)) m.2))

  no_pair : (r t : Entity) → has_item id_cmp closure (Two r t) ≡ false
  unfolding is_single
  no_pair r t = not_so (has_item id_cmp closure (Two r t)) (λ h. let m = free (Two r t) h in true≢false (sym (ap is_single m.1)))

  no_exclusive : has_item id_cmp closure (One EXCLUSIVE) ≡ false
  no_exclusive = no_single EXCLUSIVE (λ n. true≢false (sym (entity_eq_itself EXCLUSIVE) ∙ n.0))

  no_acyclic : has_item id_cmp closure (One ACYCLIC) ≡ false
  no_acyclic = no_single ACYCLIC (λ n. true≢false (sym (entity_eq_itself ACYCLIC) ∙ n.1))

  no_symmetric : IsTrue (has_symmetric w.edition) → has_item id_cmp closure (One SYMMETRIC) ≡ false
  no_symmetric has_it =
      no_single SYMMETRIC (λ n. true≢false (sym (both (has_symmetric w.edition) _ has_it (entity_eq_itself SYMMETRIC)) ∙ n.2))

  -- no trait comes too late, since none comes
  none_late : list_any (is_late w e closure) (late_traits w.edition) ≡ false
  none_late = by w.edition no_symmetric
    where
      not_late : (x : Entity) → has_item id_cmp closure (One x) ≡ false → is_late w e closure x ≡ false
      not_late x none = ap (λ b. b && (not (has w e (One x)) && is_used w e)) none

      neither : (a b : Bool) → a ≡ false → b ≡ false → (a || b) ≡ false
      neither true b p q = absurd (true≢false p)
      neither false b p q = q

      by : (d : Edition) → (IsTrue (has_symmetric d) → has_item id_cmp closure (One SYMMETRIC) ≡ false)
          → list_any (is_late w e closure) (late_traits d) ≡ false
      by First h = neither _ _ (not_late EXCLUSIVE no_exclusive) (neither _ _ (not_late ACYCLIC no_acyclic) refl)
      by Second h =
          neither _ _ (not_late EXCLUSIVE no_exclusive) (neither _ _ (not_late ACYCLIC no_acyclic) (neither _ _ (not_late SYMMETRIC (h refl)) refl))

  -- nothing stands against it
  judged : (d : Record) → record_of w e ≡ Some d → names_living w (One c) ≡ true → IsSound w → Judges w e closure (grown w e (One c) closure) None
  judged d at lives sound =
      judged_cycle w e closure (grown w e (One c) closure) None false None (none_of is_wrong_policy (λ x. refl)) none_late
      (λ r closes. true≢false (sym closes.2 ∙ no_pair r closes.1))
      (quiet_grows w e (One c) closure d at closed lives sound (λ has_it. record {
        exclusive = no_exclusive;
        acyclic = no_acyclic;
        symmetric = no_symmetric has_it;
        with = λ x. no_pair WITH x;
      })) refl

  -- nothing is replaced
  stays : (j : Id) → is_replaced w closure j ≡ false
  stays (One x) = refl
  stays (Two q u) =
      ap (λ b. is_exclusive w q && (b && not (has_item id_cmp closure (Two q u)))) (none_of (is_pair_of q) (λ x. refl))
      ∙ and_right (is_exclusive w q) false refl

  all_stay : (own : List Id) → own ≡ filter (λ j. not (is_replaced w closure j)) own
  all_stay [] = refl
  all_stay (x ∷ xs) =
      let rest = filter (λ j. not (is_replaced w closure j)) xs in
      ap (λ ys. x ∷ ys) (all_stay xs) ∙ sym (ap (λ b. cond (not b) (x ∷ rest) rest) (stays x))

  -- so the type has what was there, and the closure
  pub free_leads_to : (own all : List Id) → names_living w (One c) ≡ true → has w e (One c) ≡ false → IsSound w → Some own ≡ type_of_entity w e
      → IsTrue (is_ascending id_cmp own) → all ≡ fold (with_item id_cmp) own closure → AddLeadsTo w e (One c) (Ok all)
  free_leads_to own all lives absent sound owns up is =
      let d = some_record (record_of w e) own owns in
      leads_to w e (One c) closure own own all None lives absent closed (judged d.0 d.1 lives sound) refl owns up (all_stay own) is

-- ---- where what an id brings brings nothing more

module _ (w : WorldState) (e c : Entity) (traits : List Id) (are : Some traits ≡ type_of_entity w c) (free : ComesFreely w c traits) where
  closure : List Id
  closure = put_each (One c) (One c ∷ []) traits

  closure_has : HasGiven closure (One c) traits
  unfolding closure put_each
  closure_has j = each_joins (One c) (One c ∷ []) traits j ∙ ap (λ b. b || list_any (gives (One c) j) traits) (or-false (id_eq (One c) j))

  closed : IsClosure w (One c) closure
  unfolding closure put_each
  closed = flat_closure w (One c) traits are (λ x h. (free.1 x h).1) closure closure_has (each_ascends (One c) (One c ∷ []) traits refl)

  -- a member is a single id and no trait
  member_is : (j : Id) → IsTrue (has_item id_cmp closure j) → IsFree w j
  member_is j h =
      elim (or_parts (id_eq (One c) j) _ (sym (closure_has j) ∙ h)) as (λ _. IsFree w j) [
        | inl k ↦ (c, sym (id_eq_is (One c) j k), free.0)
        | inr k ↦ let m = any_is (gives (One c) j) traits k in from_pair m.0 m.1 (m.2 (λ y. id_eq y m.0) (id_eq_itself m.0))
      ]
    where
      from_pair : (pair : Id) → IsTrue (gives (One c) j pair) → IsTrue (has_item id_cmp traits pair) → IsFree w j
      from_pair (One x) g there = absurd (true≢false (sym g))
      from_pair (Two r x) g there =
          let is : r ≡ WITH = entity_eq_is r WITH (first_of (entity_eq r WITH) _ g) in
          (x, sym (id_eq_is (One x) j (second (entity_eq r WITH) _ g)), (free.1 x (subst (λ q. IsTrue (has_item id_cmp traits (Two q x))) is there)).0)
        where
          first_of : (a b : Bool) → IsTrue (a && b) → IsTrue a
          first_of true b h = refl
          first_of false b h = h

  -- so the type has what was there, and what comes
  pub freely_leads_to : (own all : List Id) → names_living w (One c) ≡ true → has w e (One c) ≡ false → IsSound w → Some own ≡ type_of_entity w e
      → IsTrue (is_ascending id_cmp own) → HasBrought all own c traits → IsTrue (is_ascending id_cmp all) → AddLeadsTo w e (One c) (Ok all)
  freely_leads_to own all lives absent sound owns up has_all all_up =
      free_leads_to w e c closure closed member_is own all lives absent sound owns up
      (same_members id_cmp_total same_id all (fold (with_item id_cmp) own closure) all_up (all_ascend own closure up)
      (λ j. (λ h. sym (same j) ∙ h, λ h. same j ∙ h)))
    where
      same : (j : Id) → has_item id_cmp all j ≡ has_item id_cmp (fold (with_item id_cmp) own closure) j
      same j =
          has_all j ∙ or_comm (has_item id_cmp own j) (id_eq (One c) j || list_any (gives (One c) j) traits)
          ∙ ap (λ b. b || has_item id_cmp own j) (sym (closure_has j)) ∙ sym (all_join own closure j)

-- ---- where all heads are known

-- none of the entities so far is a trait, and neither is one more
pub no_traits_more : (d : Edition) (entities : List Entity) (k : ℕ) (x : Entity) → k < length entities → AreNoTraits d (take k entities)
    → IsNoTrait d (get_or entities k x) → AreNoTraits d (take (k + 1) entities)
no_traits_more d entities k x l before here = λ y h.
    elim (or_parts (has_item entity_cmp (take k entities) y) (has_item entity_cmp (get_or entities k x ∷ []) y)
    (sym (has_append entity_cmp (take k entities) (get_or entities k x ∷ []) y)
    ∙ subst (λ xs. IsTrue (has_item entity_cmp xs y)) (take_more entities k x l) h)) as (λ _. IsNoTrait d y) [
      | inl m ↦ before y m
      | inr m ↦ subst (IsNoTrait d) (only same_entity (get_or entities k x) y m) here
    ]

pub no_trait_at : (d : Edition) (entities : List Entity) (k : ℕ) (x : Entity) → k < length entities → AreNoTraits d entities
    → IsNoTrait d (get_or entities k x)
no_trait_at d entities k x l all =
    let y = get_or entities k x in all y (list_any_at (λ z. entity_eq z y) entities k x l (entity_eq_itself y))

-- one of the entities is such a trait
abbrev HasTrait : Edition → List Entity → Type 0
HasTrait d entities = (x : Entity) × IsTrue (has_item entity_cmp entities x) × (IsNoTrait d x → ⊥)

-- so it is where not all are none
one_is_trait : (d : Edition) (entities : List Entity) → (AreNoTraits d entities → ⊥) → HasTrait d entities
one_is_trait d [] some = absurd (some (λ x h. absurd (true≢false (sym h))))
one_is_trait d (x ∷ xs) some =
    elim (all_false (entity_eq x EXCLUSIVE) (entity_eq x ACYCLIC) (has_symmetric d && entity_eq x SYMMETRIC)) as (λ _. HasTrait d (x ∷ xs)) [
      | inl none ↦
          let rest = one_is_trait d xs (λ all. some (λ y h. elim (or_parts (entity_eq x y) (has_item entity_cmp xs y) h) as (λ _. IsNoTrait d y) [
            | inl k ↦ subst (IsNoTrait d) (entity_eq_is x y k) none
            | inr k ↦ all y k
          ])) in
          (rest.0, or_right _ _ rest.1, rest.2)
      | inr is ↦ (x, or_left _ _ (entity_eq_itself x), is)
    ]
  where
    all_false : (a b c : Bool) → ((a ≡ false) × (b ≡ false) × (c ≡ false)) ⊎ ((a ≡ false) × (b ≡ false) × (c ≡ false) → ⊥)
    all_false true b c = inr (λ h. true≢false h.0)
    all_false false true c = inr (λ h. true≢false h.1)
    all_false false false true = inr (λ h. true≢false h.2)
    all_false false false false = inl (refl, refl, refl)

-- and where these are all that c brings along, c brings it
pub brings_trait : (w : WorldState) (c : Entity) (heads : List Entity) → IsReach w WITH c heads → (AreNoTraits w.edition heads → ⊥) → BringsTrait w c
brings_trait w c heads all some = let one = one_is_trait w.edition heads some in (one.0, (all one.0).0 one.1, one.2)

pub heads_lead_to : (w : WorldState) (e c : Entity) (heads : List Entity) → AreFreeHeads w c heads → (coming own all : List Id)
    → HasSameIds coming (with_heads (One c) heads) → IsTrue (is_ascending id_cmp coming) → names_living w (One c) ≡ true → has w e (One c) ≡ false
    → IsSound w → Some own ≡ type_of_entity w e → IsTrue (is_ascending id_cmp own) → all ≡ fold (with_item id_cmp) own coming
    → AddLeadsTo w e (One c) (Ok all)
heads_lead_to w e c heads are coming own all same coming_up lives absent sound owns up is =
    free_leads_to w e c coming (closure_of_heads w (One c) heads coming are.0 same coming_up)
    (λ j h. let m = head_of_item (One c) heads j (sym (same j) ∙ h) in (m.0, sym m.2, are.1 m.0 m.1)) own all lives absent sound owns up is
