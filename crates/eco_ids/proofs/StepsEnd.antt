-- Each step has an end: some answer, and some world after it.
use Rattle.eco_ids.proofs.Common.{◌≡◌, ℕ, Bool, cond, not, List, IsTrue, Some, None, Option, MatchOption, sym, subst, arith, rules, common_steps, Entity, Id}
use Rattle.eco_ids.proofs.Common.{Refusal, Reserved, NotAlive, DeadId, NoMoreIds, Value, unfit_name, Makes, Admits, MakesAlive, is_builtins}
use Rattle.eco_ids.proofs.Common.{DeletesOne, DeletesWith, Indexed, next_entity, with_new, IsLawful, nobody, without, Refuses, Answers, changed, Adds, Sets}
use Rattle.eco_ids.proofs.Common.{with_value, RemovesAll, Renames, unfit_actor, Loses, unchanged, unfit, unfit_set, WorldState, Record, has, is_alive}
use Rattle.eco_ids.proofs.Common.{entities, is_reserved, goes_too}
use Rattle.eco_ids.proofs.Common.{names_living, OnEntities}
use Rattle.eco_ids.proofs.AddsEnd.{extends_end}
use Rattle.eco_ids.proofs.DeletesEnd.{deletes_end}
use Rattle.eco_ids.proofs.Endings.{End, done, either, in_world, refused, unless}
use Rattle.eco_ids.proofs.Facts.{same_or_apart}
use Rattle.eco_ids.proofs.Listable.{decide_bool}
use Rattle.eco_ids.proofs.LivingLists.{has_alive}
use Rattle.eco_ids.proofs.Steps.{passed, was_true}

-- what is fit is named by the living, whatever is tested after that
fit_names : (w : WorldState) (e : Entity) (i : Id) (rest : Option Refusal)
    → cond (not (is_alive w e)) (Some NotAlive) (cond (is_reserved w e i) (Some Reserved) (cond (not (names_living w i)) (Some DeadId) rest)) ≡ None
    → IsTrue (names_living w i)
fit_names w e i rest h = grind (arith, common_steps, passed, was_true)

pub makes_end : (w : WorldState) (d : Record) → End (OnEntities (λ v. Makes (λ r. r.name) v d) w)
makes_end w d =
    let v = entities w in
    in_world w (λ v. Makes (λ r. r.name) v d) (unless v (unfit_name (λ r. r.name) v d.name) _ (λ _. next v (next_entity v)))
  where
    next : (v : Indexed Record) (o : Option Entity) → End (λ r new. MatchOption o (Refuses NoMoreIds v r new) (λ e. Answers e (with_new v e d) r new))
    next v None = refused NoMoreIds v
    next v (Some e) = done e (with_new v e d)

pub makes_alive_end : (w : WorldState) (e : Entity) → End (MakesAlive w e)
makes_alive_end w e = search (rules, in_world, either, done, refused)

pub admits_end : (w : WorldState) (n : ℕ) → End (OnEntities (λ v. Admits v n) w)
admits_end w n = search (rules, in_world, either, done, refused)

pub loses_end : (w : WorldState) (o : Option Refusal) (goes : Entity → Id → Bool)
    → End (λ r new. MatchOption o (Loses w goes r new) (λ y. Refuses y w r new))
loses_end w o goes = unless w o _ (λ _. done tt (without w nobody (goes_too w goes)))

pub renames_end : (w : WorldState) (e : Entity) (name : Option (List ℕ)) → End (Renames w e name)
renames_end w e name = search (rules, in_world, unless, done)

pub removes_all_end : (w : WorldState) (i : Id) → End (RemovesAll w i)
removes_all_end w i = either (is_builtins w i) _ _ (refused Reserved w) (done tt _)

pub adds_end : (w : WorldState) (l : IsLawful w) (e : Entity) (i : Id) → End (Adds w e i)
adds_end w l e i = unless w (unfit w e i) _ (λ fit. either (has w e i) _ _ (done tt w) (extends_end w l e i unchanged (fit_names w e i None fit)))

pub sets_end : (w : WorldState) (l : IsLawful w) (e : Entity) (i : Id) (v : Value) → End (Sets w e i v)
sets_end w l e i v =
    unless w (unfit_set w e i v) _
    (λ fit. either (has w e i) _ _ (done tt (changed w e (with_value i v))) (extends_end w l e i (with_value i v) (fit_names w e i _ fit)))

pub deletes_one_end : (w : WorldState) (e : Entity) → End (DeletesOne w e)
deletes_one_end w e = unless w (unfit_actor w e) _ (λ fit. deletes_end w (λ x. x ≡ e) (λ x. same_or_apart x e) (root_lives fit))
  where
    root_lives : unfit_actor w e ≡ None → (x : Entity) → x ≡ e → IsTrue (is_alive w x)
    root_lives fit x is = subst (λ y. IsTrue (is_alive w y)) (sym is) (was_true (is_alive w e) (passed (not (is_alive w e)) NotAlive _ fit).0)

pub deletes_with_end : (w : WorldState) (i : Id) → End (DeletesWith w i)
deletes_with_end w i =
    either (is_builtins w i) _ _ (refused Reserved w) (deletes_end w (λ x. IsTrue (has w x i)) (λ x. decide_bool (has w x i)) (λ x. has_alive w x i))
