-- From a lawful world commands have a run in which no memory is wanting.
use Rattle.eco_systems.proofs.Common.{◌≡◌, Bool, true, false, cond, ◌&&◌, List, [], ◌∷◌, refl, ap, ◌∙◌, subst, IsTrue, Option, Some, None}
use Rattle.eco_systems.proofs.Common.{option_map, MatchOption, MatchBool, Result, Ok, Err, list_any, Entity, Id, Refusal, Reserved, NotAPolicy, InUse, Cycle}
use Rattle.eco_systems.proofs.Common.{Taken, TraitClash, bare, is_builtin, is_builtins, Indexed, is_free_at, option_or, Deletes, late_traits, IsLawful}
use Rattle.eco_systems.proofs.Common.{entity_eq, id_eq, Refuses, Meets, is_out_of_memory, Command, Create, Add, Remove, Set, Clear, Rename, Delete, DeleteWith}
use Rattle.eco_systems.proofs.Common.{RemoveAll, Applies, may_want, Runs, WorldState, Record, entities, has, applies_lawful, applies_settled, none-some}
use Rattle.eco_systems.proofs.Common.{same_Some, MakesAliveWith, RenamesWith, Ends, OnEntities, rules, FrameOutcomes, RefusedCommandsChangeNothing}
use Rattle.eco_ids.specs.Mirrors.{has_clash}
use Rattle.eco_ids.specs.Step.{Extends, Judges, is_late, is_wrong_policy, unfit_actor, IsFirstCycle, unfit, unfit_set, unfit_rename, changed, grown, unchanged}
use Rattle.eco_ids.specs.Step.{with_name, with_value}
use Rattle.eco_ids.proofs.Endings.{End}
use Rattle.eco_ids.proofs.StepsEnd.{adds_end, deletes_one_end, deletes_with_end, loses_end, makes_alive_end, removes_all_end, renames_end, sets_end}
use Rattle.eco_systems.proofs.Follows.{Follows, from_answer, from_refusal, unless, either, meets}

-- the answer isn't that memory is wanting
abbrev IsAmple : {S : Type 0} → Result (Unit {0}) Refusal → S → Type 0
IsAmple r new = is_out_of_memory r ≡ false

-- nor is a refusal, if it is one
record AreOther (o : Option Refusal) : Type 0 where
  is : (why : Refusal) → o ≡ Some why → is_out_of_memory {A = Unit {0}} (Err why) ≡ false

passed : AreOther None
passed = record { is = λ why e. absurd (none-some why e) }

refused : {first : Refusal} → is_out_of_memory {A = Unit {0}} (Err first) ≡ false → AreOther (Some first)
refused {first = first} other = record { is = λ why e. subst (λ r. is_out_of_memory {A = Unit {0}} (Err r) ≡ false) (same_Some first why e) other }

test : (b : Bool) (why : Refusal) (rest : Option Refusal) → is_out_of_memory {A = Unit {0}} (Err why) ≡ false → AreOther rest →
    AreOther (cond b (Some why) rest)
test true why rest other others = refused other
test false why rest other others = others

-- ---- each command

judged_other : (w : WorldState) (e : Entity) (s : List Id) (after : WorldState) (v : Option Refusal) → Judges w e s after v → AreOther v
judged_other w e s after v = by (list_any is_wrong_policy s) (list_any (is_late w e s) (late_traits w.edition))
  where
    verdict_of : Bool → Option Entity → Option Refusal
    verdict_of clash o = cond clash (option_or (option_map Cycle o) (Some TraitClash)) (option_map Cycle o)

    verdict_other : (clash : Bool) (o : Option Entity) → AreOther (verdict_of clash o)
    verdict_other true None = refused refl
    verdict_other false None = passed
    verdict_other true (Some r) = refused refl
    verdict_other false (Some r) = refused refl

    by : (b c : Bool) →
        MatchBool b (v ≡ Some NotAPolicy) (MatchBool c (v ≡ Some InUse) ((o : Option Entity) × IsFirstCycle w e s o
        × (v ≡ verdict_of (has_clash after) o)))
        → AreOther v
    by true c h = rw h (refused refl)
    by false true h = rw h (refused refl)
    by false false h = rw h.2 (verdict_other (has_clash after) h.0)

fit_ample : {S : Type 0} (old : S) (o : Option Refusal) (Step : Result (Unit {0}) Refusal → S → Type 0) → AreOther o → Follows IsAmple Step →
    Follows IsAmple (λ r new. MatchOption o (Step r new) (λ why. Refuses why old r new))
fit_ample old o Step others ample = unless old o Step others.is ample

module _ (w : WorldState) where
  extends_ample : (e : Entity) (i : Id) (besides : Record → Record) → Follows IsAmple (Extends w e i besides)
  extends_ample e i besides = record {
    at = λ r new x.
        (unless {P = IsAmple} w x.2 _ (judged_other w e x.0 (grown w e i x.0) x.2 x.3).is
        (from_answer (changed (grown w e i x.0) e besides) refl)).at r new x.4;
  }

  deletes_ample : (IsRoot : Entity → Type 0) → Follows IsAmple (Deletes w IsRoot)
  deletes_ample IsRoot = record { at = λ r new d. by r new d.0 d.2 }
    where
      by : (r : Result (Unit {0}) Refusal) (new : WorldState) (members : List Entity) → Ends w members r new → IsAmple r new
      by (Ok done) new members h = refl
      by (Err why) new members h = ap (λ y. is_out_of_memory {A = Unit {0}} (Err y)) h.3

  in_world_ample : (Step : Indexed Record → Result (Unit {0}) Refusal → Indexed Record → Type 0) → Follows IsAmple (Step (entities w)) →
      Follows IsAmple (OnEntities Step w)
  in_world_ample Step ample = record { at = λ r new h. ample.at r h.0 h.1 }

  applies_ample : (c : Command) → Follows IsAmple (Applies c w)
  applies_ample (Create e) =
      in_world_ample (λ v. MakesAliveWith v e (bare None)) (either (is_free_at (entities w) e) _ _ (from_answer _ refl) (from_refusal Taken _ refl))
  applies_ample (Add e i) =
      fit_ample w (unfit w e i) _ (search (rules, test, passed))
      (either (has w e i) _ _ (from_answer w refl) (extends_ample e i unchanged))
  applies_ample (Remove e i) = fit_ample w (unfit_actor w e) _ (search (rules, test, passed)) (from_answer _ refl)
  applies_ample (Set e i v) =
      fit_ample w (unfit_set w e i v) _ (search (rules, test, passed))
      (either (has w e i) _ _ (from_answer _ refl) (extends_ample e i (with_value i v)))
  applies_ample (Clear e) = fit_ample w (unfit_actor w e) _ (search (rules, test, passed)) (from_answer _ refl)
  applies_ample (Rename e name) =
      in_world_ample (λ v. RenamesWith (λ r. r.name) with_name v e (is_builtin w e) name)
      (fit_ample (entities w) (unfit_rename w e name) _ (search (rules, test, passed)) (from_answer _ refl))
  applies_ample (Delete e) = fit_ample w (unfit_actor w e) _ (search (rules, test, passed)) (deletes_ample (λ x. x ≡ e))
  applies_ample (DeleteWith i) = either (is_builtins w i) _ _ (from_refusal Reserved w refl) (deletes_ample (λ x. IsTrue (has w x i)))
  applies_ample (RemoveAll i) = either (is_builtins w i) _ _ (from_refusal Reserved w refl) (from_answer _ refl)

applies_end : (c : Command) (w : WorldState) → IsLawful w → End (Applies c w)
applies_end (Create e) w l = makes_alive_end w e
applies_end (Add e i) w l = adds_end w l e i
applies_end (Remove e i) w l = loses_end w (unfit_actor w e) (λ x j. entity_eq x e && id_eq j i)
applies_end (Set e i v) w l = sets_end w l e i v
applies_end (Clear e) w l = loses_end w (unfit_actor w e) (λ x j. entity_eq x e)
applies_end (Rename e name) w l = renames_end w e name
applies_end (Delete e) w l = deletes_one_end w e
applies_end (DeleteWith i) w l = deletes_with_end w i
applies_end (RemoveAll i) w l = removes_all_end w i

meets_ample : (c : Command) (w : WorldState) (r : Result (Unit {0}) Refusal) (new : WorldState) → Applies c w r new →
    Meets (Applies c w) (may_want c w) w r new
meets_ample c w r new h = rw ((applies_ample w c).at r new h) h

pub runs_end : (cs : List Command) (w : WorldState) → IsLawful w → (rs : FrameOutcomes) × (new : WorldState) × Runs w cs rs new
runs_end [] w l = ([], w, refl)
runs_end (c ∷ cs) w l =
    let one = applies_end c w l in
    let rest = runs_end cs one.1 (applies_lawful c w one.0 one.1 l one.2) in
    (one.0 ∷ rest.0, rest.1, (one.1, meets_ample c w one.0 one.1 one.2, rest.2))

-- ---- a refused command changes nothing

pub refused_changes_nothing : RefusedCommandsChangeNothing
refused_changes_nothing c w why new h = h.2 ∙ (meets _ (may_want c w) w (λ y e. refl) kept).at (Err why) h.0 h.1 why refl
  where
    kept : Follows (λ r new. (y : Refusal) → r ≡ Err y → new ≡ w) (Applies c w)
    kept = record { at = λ r new h y e. (applies_settled c w).kept y new (subst (λ q. Applies c w q new) e h) }
