-- An add is the type that it leads to, and a set is an add and a write.
use Rattle.eco_world.proofs.Common.{◌≡◌, Bool, true, false, cond, not, ◌&&◌, List, [], map, Option, Some, None, option_map, unwrap_or, refl, sym, ap}
use Rattle.eco_world.proofs.Common.{◌∙◌, subst, is_some, true≢false, IsTrue, MatchOption, MatchBool, Result, Ok, Err, list_any, option_or, find}
use Rattle.eco_world.proofs.Common.{where_key, Entity, Id, One, Two, Refusal, DeadId, OutOfMemory, Value, is_builtin, without, nobody, goes_too, mirror_of}
use Rattle.eco_world.proofs.Common.{IsLawful, id_cmp, has_item, Meets, Answers, Refuses, is_out_of_memory, changed, grown, with_value, with_closure}
use Rattle.eco_world.proofs.Common.{is_replaced, is_pair_of, IsClosure, Judges, Loses, Extends, Adds, unfit, unchanged, Sets, unfit_set, unfit_actor}
use Rattle.eco_world.proofs.Common.{is_reserved, with_mirror, WorldState, Record, zeros, has, names_living, is_exclusive, record_of, with_record, is_alive}
use Rattle.eco_world.proofs.Common.{changed_is, changed_unchanged, zeros_have, keys_find, second, not_ok, not_true, with_type, ExtendsTo, FindsTarget}
use Rattle.eco_world.proofs.Common.{FindsType, IsOwnType, IsTypeAfter, type_meant, type_of_entity, type_of_record, value_in, MaySet, type_of, IsAlone}
use Rattle.eco_ids.specs.Laws.{Keeps, AddsExactly, AddsOnce}
use Rattle.eco_ids.proofs.Grown.{grown_at}
use Rattle.eco_ids.proofs.Steps.{has_itself}
use Rattle.eco_traits.specs.declared.target.Target.{Target}
use Rattle.eco_world.proofs.Changes.{held_at, sorted_at}
use Rattle.eco_world.proofs.Held.{retyped_is}
use Rattle.eco_world.proofs.Mirroring.{alone_typed, left_value}
use Rattle.eco_world.proofs.Steps.{meets_as}
use Rattle.eco_ids.specs.Step as step

-- ---- a closure more

replaced_absent : (w : WorldState) (s : List Id) (j : Id) → is_replaced w s j ≡ true → has_item id_cmp s j ≡ false
replaced_absent w s (One e) h = absurd (true≢false (sym h))
replaced_absent w s (Two r t) h =
    not_true (has_item id_cmp s (Two r t))
    (second (list_any (is_pair_of r) s) (not (has_item id_cmp s (Two r t)))
    (second (is_exclusive w r) (list_any (is_pair_of r) s && not (has_item id_cmp s (Two r t))) h))

-- an add that is done: that it keeps the world lawful, and that the entity's new ids and the mirror say it all
pub record IsExtended (w : WorldState) (e : Entity) (i : Id) (s : List Id) (d : Record) : Type 0 where
  pub lawful : IsLawful (grown w e i s)
  pub typed : with_mirror (changed w e (with_type (type_of_record (with_closure w s d)))) (mirror_of w e i) ≡ grown w e i s

module _ (w : WorldState) (e : Entity) (i : Id) (alive : is_alive w e ≡ true) (free : is_reserved w e i ≡ false) (living : names_living w i ≡ true) where
  fit : unfit w e i ≡ None
  fit = rw (alive, free, living) refl

  module _ (absent : has w e i ≡ false) where
    -- an add is the extension of what the entity has
    pub adds_are : (r : Result (Unit {0}) Refusal) (new : WorldState) → Adds w e i r new ≡ Extends w e i unchanged r new
    adds_are r new =
        ap (λ o. MatchOption o (MatchBool (has w e i) (Answers tt w r new) (Extends w e i unchanged r new)) (λ why. Refuses why w r new)) fit
        ∙ ap (λ b. MatchBool b (Answers tt w r new) (Extends w e i unchanged r new)) absent

    pub adds_by : (r : Result (Unit {0}) Refusal) (new : WorldState) → Extends w e i unchanged r new → Adds w e i r new
    adds_by r new = subst (λ X. X) (sym (adds_are r new))

    module _ (s : List Id) (d : Record) (at : record_of w e ≡ Some d) (lawful : IsLawful w) (keeps : Keeps (λ v. Adds v e i)) (exactly : AddsExactly)
        (closure : IsClosure w i s) (judges : Judges w e s (grown w e i s) None) where
      done : Adds w e i (Ok tt) (grown w e i s)
      done = adds_by (Ok tt) (grown w e i s) (s, closure, None, judges, (refl, sym (changed_unchanged (grown w e i s) e)))

      kept : IsLawful (grown w e i s)
      kept = keeps w (Ok tt) (grown w e i s) lawful done

      written : record_of (grown w e i s) e ≡ Some (with_closure w s d)
      written = grown_at w e i s d at (has_itself w i s closure)

      values : (j : Id) (v : Value) → find id_cmp j (with_closure w s d).held ≡ Some v → value_in d.held j ≡ v
      values j v found =
          let leaves = exactly w e i (grown w e i s) absent done in
          left_value (find id_cmp j d.held) (is_replaced w leaves.closure j) (has_item id_cmp leaves.closure j) v (replaced_absent w leaves.closure j)
          (ap (λ held. option_or (cond (not (is_replaced w leaves.closure j)) (find id_cmp j held) None)
          (cond (has_item id_cmp leaves.closure j) (Some zeros) None)) (sym (held_at w e d at))
          ∙ sym (leaves.values j)
          ∙ ap (find id_cmp j) (held_at (grown w e i s) e (with_closure w s d) written)
          ∙ found)

      extended_typed : IsExtended w e i s d
      extended_typed = record {
        lawful = kept;
        typed = ap (λ x. with_mirror x (mirror_of w e i))
            (changed_is w e (with_type (type_of_record (with_closure w s d))) d at
            ∙ ap (λ held. with_record w e (record d { held = held }))
            (retyped_is (with_closure w s d).held d.held (sorted_at (grown w e i s) e kept (with_closure w s d) written) values)
            ∙ sym (changed_is w e (with_closure w s) d at));
      }

-- ---- an add, from the type that it leads to

record IsFound (w : WorldState) (e : Entity) (i : Id) (ids : List Id) : Type 0 where
  pub closure : List Id
  pub is_closure : IsClosure w i closure
  pub judges : Judges w e closure (grown w e i closure) None
  pub of : Record
  pub at : record_of w e ≡ Some of
  pub ids_are : ids ≡ type_of_record (with_closure w closure of)

same_ok : (x y : List Id) → (let r : Result (List Id) Refusal = Ok x in r ≡ Ok y) → x ≡ y
same_ok x y h = cc

found : (w : WorldState) (e : Entity) (i : Id) (ids : List Id) → names_living w i ≡ true → has w e i ≡ false → FindsType w e i (Ok ids)
    → IsFound w e i ids
found w e i ids living absent finds = by_verdict extends.0 extends.1 extends.2 extends.3 extends.4
  where
    extends : ExtendsTo w e i (Ok ids)
    extends =
        subst (λ b. MatchBool b (IsOwnType w e (Ok ids)) (ExtendsTo w e i (Ok ids))) absent
        (subst (λ b. MatchBool b (MatchBool (has w e i) (IsOwnType w e (Ok ids)) (ExtendsTo w e i (Ok ids))) (Ok ids ≡ Err DeadId)) living finds)

    by_verdict : (s : List Id) → IsClosure w i s → (v : Option Refusal) → Judges w e s (grown w e i s) v → MatchOption v (IsTypeAfter w e s (Ok ids))
        (λ why. Ok ids ≡ Err why) →
        IsFound w e i ids
    by_verdict s closure None judges m = record { closure = s; is_closure = closure; judges = judges; of = m.0; at = m.1; ids_are = same_ok ids _ m.2 }
    by_verdict s closure (Some why) judges m = absurd (not_ok m)

-- what stands against the type stands against the extension
opposed : (w : WorldState) (e : Entity) (i : Id) (why : Refusal) → ExtendsTo w e i (Err why) → Extends w e i unchanged (Err why) w
opposed w e i why x = by_verdict x.0 x.1 x.2 x.3 x.4
  where
    by_verdict : (s : List Id) → IsClosure w i s → (v : Option Refusal) → Judges w e s (grown w e i s) v →
        MatchOption v (IsTypeAfter w e s (Err why)) (λ y. (let r : Result (List Id) Refusal = Err why in r ≡ Err y)) → Extends w e i unchanged (Err why) w
    by_verdict s closure None judges m = absurd (not_ok (sym m.2))
    by_verdict s closure (Some y) judges m = (s, closure, Some y, judges, (let same : why ≡ y = cc in ap Err same, refl))

-- what was found leads to a type only where each entity in the id lives
pub names_live : (w : WorldState) (e : Entity) (i : Id) (ids : List Id) → FindsType w e i (Ok ids) → names_living w i ≡ true
names_live w e i ids = by (names_living w i)
  where
    by : (b : Bool) → MatchBool b (MatchBool (has w e i) (IsOwnType w e (Ok ids)) (ExtendsTo w e i (Ok ids))) (Ok ids ≡ Err DeadId) → b ≡ true
    by true m = refl
    by false m = absurd (not_ok m)

-- ---- the whole add

module _ (w : WorldState) (e : Entity) (i : Id) (alive : is_alive w e ≡ true) (free : is_reserved w e i ≡ false) where
  -- it is done where the id is there
  pub adds_there : names_living w i ≡ true → has w e i ≡ true → Adds w e i (Ok tt) w
  adds_there living there = rw (alive, free, living, there) (refl, refl)

  module _ (living : names_living w i ≡ true) (absent : has w e i ≡ false) where
    -- where it isn't, an add is an extension
    pub extends_adds : (r : Result (Unit {0}) Refusal) (new : WorldState) → Meets (Adds w e i) (step.may_add w e i) w r new →
        Meets (Extends w e i unchanged) true w r new
    extends_adds r new = meets_as (Adds w e i) (Extends w e i unchanged) (step.may_add w e i) true w new w new r (λ _ same. (refl, same))
        (subst (λ X. X) (adds_are w e i alive free living absent r new))

  -- what stands against the type stands against the add
  opposed_by : (why : Refusal) (b : Bool) → names_living w i ≡ b → (h : Bool) → has w e i ≡ h →
      MatchBool b (MatchBool h (IsOwnType w e (Err why)) (ExtendsTo w e i (Err why))) (let r : Result (List Id) Refusal = Err why in r ≡ Err DeadId) →
      Adds w e i (Err why) w
  opposed_by why true living true there m = absurd (not_ok (sym m.2))
  opposed_by why true living false absent m = adds_by w e i alive free living absent (Err why) w (opposed w e i why m)
  opposed_by why false lies h is m = rw (alive, free, lies) (let same : why ≡ DeadId = cc in ap Err same, refl)

  pub opposed_add : (why : Refusal) → FindsType w e i (Err why) → (IsTrue (is_out_of_memory {A = Unit {0}} (Err why)) → has w e i ≡ false) →
      Meets (Adds w e i) (step.may_add w e i) w (Err why) w
  opposed_add OutOfMemory finds memory =
      (ap (λ o. not (is_some o) && not (has w e i)) (fit w e i alive free finds) ∙ ap not (memory refl), refl)
  opposed_add why finds memory = opposed_by why (names_living w i) refl (has w e i) refl finds

-- the world once the entity has these ids, and the mirror of i stands where it belongs
abbrev pub typed_both : WorldState → Entity → Id → List Id → WorldState
typed_both w e i ids = with_mirror (changed w e (with_type ids)) (mirror_of w e i)

-- the entity with what the add leads to, and the mirror: the world is lawful, and the add is done
pub record IsGrown (w : WorldState) (e : Entity) (i : Id) (new : WorldState) : Type 0 where
  pub lawful : IsLawful new
  pub adds : Adds w e i (Ok tt) new

own_type : (w : WorldState) (e : Entity) → unwrap_or (type_of_entity w e) [] ≡ type_of w e
own_type w e = by (record_of w e)
  where
    by : (o : Option Record)
        → unwrap_or (option_map type_of_record o) [] ≡ map (λ (p : Id × Value). p.0) (unwrap_or (option_map (λ (r : Record). r.held) o) [])
    by None = refl
    by (Some d) = refl

module _ (w : WorldState) (e : Entity) (i : Id) (alive : is_alive w e ≡ true) (free : is_reserved w e i ≡ false) (lawful : IsLawful w)
    (keeps : Keeps (λ v. Adds v e i)) (exactly : AddsExactly) (lacks : has w e i ≡ false) where
  module _ (ids : List Id) (finds : FindsType w e i (Ok ids)) where
    living : names_living w i ≡ true
    living = names_live w e i ids finds

    of : IsFound w e i ids
    of = found w e i ids living lacks finds

    found_both : IsGrown w e i (typed_both w e i ids)
    found_both =
        let x = extended_typed w e i alive free living lacks of.closure of.of of.at lawful keeps exactly of.is_closure of.judges in
        let same : typed_both w e i ids ≡ grown w e i of.closure = ap (typed_both w e i) of.ids_are ∙ x.typed in
        record {
          lawful = subst IsLawful (sym same) x.lawful;
          adds = adds_by w e i alive free living lacks (Ok tt) (typed_both w e i ids)
              (of.closure, of.is_closure, None, of.judges, (refl, same ∙ sym (changed_unchanged (grown w e i of.closure) e)));
        }

    -- where nobody else has a mirror of it, the entity's ids are all
    pub found_other : IsAlone w e i → IsGrown w e i (changed w e (with_type ids))
    found_other alone =
        let own : IsTrue (has_item id_cmp ids i) = subst (λ js. IsTrue (has_item id_cmp js i)) (sym of.ids_are)
        (sym (keys_find (with_closure w of.closure of.of).held i)
        ∙ zeros_have of.closure (where_key id_cmp (λ j. not (is_replaced w of.closure j)) (of.of).held) i (has_itself w i of.closure of.is_closure)) in
        subst (IsGrown w e i) (alone_typed w e i ids of.of of.at alone own) found_both

  -- where somebody has a mirror of it
  pub found_mirrored : (t : Target) (m : Entity × Id) → FindsTarget w e i (Ok t) → mirror_of w e i ≡ Some m →
      IsGrown w e i (with_mirror (changed w e (with_type (type_meant (type_of w e) i t))) (Some m))
  found_mirrored t m finds mirror =
      subst (λ o. IsGrown w e i (with_mirror (changed w e (with_type (type_meant (type_of w e) i t))) o)) mirror
      (found_both (type_meant (type_of w e) i t) (subst (λ own. FindsType w e i (Ok (type_meant own i t))) (own_type w e) finds))

-- ---- a set

-- where nothing stands against a set and the id isn't there, the add that it begins with is an extension
pub extended : (w : WorldState) (e : Entity) (i : Id) (v : Value) → MaySet w e i v → has w e i ≡ false
    → (r : Result (Unit {0}) Refusal) (new : WorldState) →
    Meets (Adds w e i) (step.may_add w e i) w r new → Meets (Extends w e i unchanged) true w r new
extended w e i v may_set = extends_adds w e i may_set.alive may_set.free may_set.living

-- the world between an add and the write that makes it a set
pub record IsSetAfter (w : WorldState) (e : Entity) (i : Id) (v : Value) (mid : WorldState) : Type 0 where
  pub there : has mid e i ≡ true
  pub alive : is_alive mid e ≡ true
  pub lawful : IsLawful (changed mid e (with_value i v))
  pub sets : Sets w e i v (Ok tt) (changed mid e (with_value i v))

module _ (w : WorldState) (e : Entity) (i : Id) (v : Value) (may_set : MaySet w e i v) (lawful : IsLawful w) (keeps : Keeps (λ x. Sets x e i v)) where
  fit_set : unfit_set w e i v ≡ None
  fit_set = rw (may_set.alive, may_set.free, may_set.living, may_set.data_id, may_set.narrow) refl

  -- where the id is there
  pub sets_there : has w e i ≡ true → Sets w e i v (Ok tt) (changed w e (with_value i v))
  sets_there there = rw (may_set.alive, may_set.free, may_set.living, may_set.data_id, may_set.narrow, there) (refl, refl)

  -- where it isn't, a set is an extension
  sets_by : has w e i ≡ false → (r : Result (Unit {0}) Refusal) (new : WorldState) → Extends w e i (with_value i v) r new → Sets w e i v r new
  sets_by absent r new x =
      subst (λ o. MatchOption o (MatchBool (has w e i) (Answers tt (changed w e (with_value i v)) r new) (Extends w e i (with_value i v) r new))
      (λ why. Refuses why w r new)) (sym fit_set)
      (subst (λ b. MatchBool b (Answers tt (changed w e (with_value i v)) r new) (Extends w e i (with_value i v) r new)) (sym absent) x)

  pub lawful_there : has w e i ≡ true → IsLawful (changed w e (with_value i v))
  lawful_there there = keeps w (Ok tt) (changed w e (with_value i v)) lawful (sets_there there)

  -- what stands against the closure stands against the set, and where memory is wanting neither changes anything
  pub refused_after : has w e i ≡ false → (why : Refusal) (new : WorldState) → Meets (Extends w e i unchanged) true w (Err why) new
      → Meets (Sets w e i v) (step.may_set w e i v) w (Err why) new
  refused_after absent why new = meets_as (Extends w e i unchanged) (Sets w e i v) true (step.may_set w e i v) w new w new (Err why)
      (λ _ same. (ap (λ o. not (is_some o) && not (has w e i)) fit_set ∙ ap not absent, same))
      (λ x. sets_by absent (Err why) new (refused x.0 x.1 x.2 x.3 x.4))
    where
      refused : (s : List Id) → IsClosure w i s → (verdict : Option Refusal) → Judges w e s (grown w e i s) verdict →
          MatchOption verdict (Answers {A = Unit {0}} tt (changed (grown w e i s) e unchanged) (Err why) new)
          (λ y. Refuses {A = Unit {0}} y w (Err why) new) →
          Extends w e i (with_value i v) (Err why) new
      refused s closure None judges m = absurd (not_ok (sym m.0))
      refused s closure (Some y) judges m = (s, closure, Some y, judges, m)

  -- after the id was added
  module _ (absent : has w e i ≡ false) (once : AddsOnce) (mid : WorldState) (extends : Extends w e i unchanged (Ok tt) mid) where
    there : has mid e i ≡ true
    there = (once w e i mid (adds_by w e i may_set.alive may_set.free may_set.living absent (Ok tt) mid extends)).0

    lives : (o : Option Record) → is_some (find id_cmp i (unwrap_or (option_map (λ (r : Record). r.held) o) [])) ≡ true → is_some o ≡ true
    lives None h = absurd (true≢false (sym h))
    lives (Some d) h = refl

    both_done : (s : List Id) → IsClosure w i s → (verdict : Option Refusal) → Judges w e s (grown w e i s) verdict →
        MatchOption verdict (Answers {A = Unit {0}} tt (changed (grown w e i s) e unchanged) (Ok tt) mid) (λ why. Refuses {A = Unit {0}} why w (Ok tt) mid) →
        Extends w e i (with_value i v) (Ok tt) (changed mid e (with_value i v))
    both_done s closure None judges m = (s, closure, None, judges, (refl, ap (λ x. changed x e (with_value i v)) (m.1 ∙ changed_unchanged (grown w e i s) e)))
    both_done s closure (Some why) judges m = absurd (not_ok m.0)

    sets_after : Sets w e i v (Ok tt) (changed mid e (with_value i v))
    sets_after = sets_by absent (Ok tt) (changed mid e (with_value i v)) (both_done extends.0 extends.1 extends.2 extends.3 extends.4)

    pub set_after : IsSetAfter w e i v mid
    set_after = record {
      there = there;
      alive = lives (record_of mid e) there;
      lawful = keeps w (Ok tt) (changed mid e (with_value i v)) lawful sets_after;
      sets = sets_after;
    }

-- ---- a remove, and a clear

module _ (w : WorldState) (e : Entity) (alive : is_alive w e ≡ true) (ordinary : is_builtin w e ≡ false) where
  -- the ids that go from one who may act, each with its mirror
  pub loses : (goes : Entity → Id → Bool) → MatchOption (unfit_actor w e) (Loses w goes (Ok tt) (without w nobody (goes_too w goes)))
      (λ why. Refuses {A = Unit {0}} why w (Ok tt) (without w nobody (goes_too w goes)))
  loses goes = subst (λ o. MatchOption o (Loses w goes (Ok tt) (without w nobody (goes_too w goes)))
      (λ why. Refuses {A = Unit {0}} why w (Ok tt) (without w nobody (goes_too w goes)))) (sym fit_actor) (refl, refl)
    where
      fit_actor : unfit_actor w e ≡ None
      fit_actor = rw (alive, ordinary) refl
