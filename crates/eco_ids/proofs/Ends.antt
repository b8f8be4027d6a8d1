-- Each step has one end, and a refused one changes nothing.
use Rattle.eco_ids.proofs.Common.{◌≡◌, ℕ, Bool, true, false, List, IsTrue, Some, None, Err, MatchBool, Option, Result, MatchOption, sym, ◌∙◌, arith, rules}
use Rattle.eco_ids.proofs.Common.{common_steps, Entity, Id, Refusal, Reserved, NoMoreIds, Taken, Value, Makes, Admits, MakesAliveWith, is_builtin, is_builtins}
use Rattle.eco_ids.proofs.Common.{Deletes, DeletesOne, DeletesWith, Indexed, Refuses, Answers, RenamesWith, unfit_rename, changed, Adds, Sets, with_value}
use Rattle.eco_ids.proofs.Common.{RemovesAll, Renames, grown, unfit_actor, Extends, unchanged, unfit, Clears, Removes, unfit_set, with_name, WorldState, Record}
use Rattle.eco_ids.proofs.Common.{has, entities, OnEntities}
use Rattle.eco_ids.proofs.Exact.{deletes_unique}
use Rattle.eco_ids.proofs.Facts.{not_ok}
use Rattle.eco_ids.proofs.Meaning.{extends_unique}

-- one end, and refused none but the beginning
pub record IsSettled {A S : Type 0} (old : S) (Step : Result A Refusal → S → Type 0) : Type 0 where
  pub one : (r q : Result A Refusal) (new other : S) → Step r new → Step q other → (r ≡ q) × (new ≡ other)
  pub kept : (why : Refusal) (new : S) → Step (Err why) new → new ≡ old

answers : {A S : Type 0} (old : S) (x : A) (after : S) → IsSettled old (Answers x after)
answers old x after = record { one = λ r q new other a b. (a.0 ∙ sym b.0, a.1 ∙ sym b.1); kept = λ why new a. absurd (not_ok (sym a.0)) }

refuses : {A S : Type 0} (old : S) (why : Refusal) → IsSettled {A = A} old (Refuses why old)
refuses old why = record { one = λ r q new other a b. (a.0 ∙ sym b.0, a.1 ∙ sym b.1); kept = λ _ new a. a.1 }

by_option : {A B S : Type 0} (old : S) (o : Option B) (P : Result A Refusal → S → Type 0) (Q : B → Result A Refusal → S → Type 0) →
    IsSettled old P → ((b : B) → IsSettled old (Q b)) → IsSettled old (λ r new. MatchOption o (P r new) (λ b. Q b r new))
by_option old None P Q p q = p
by_option old (Some b) P Q p q = q b

by_bool : {A S : Type 0} (old : S) (b : Bool) (P Q : Result A Refusal → S → Type 0) → IsSettled old P → IsSettled old Q →
    IsSettled old (λ r new. MatchBool b (P r new) (Q r new))
by_bool old true P Q p q = p
by_bool old false P Q p q = q

-- done at once, unless something stands against it
at_once : {A S : Type 0} (old : S) (unfit : Option Refusal) (x : A) (after : S) →
    IsSettled old (λ r new. MatchOption unfit (Answers x after r new) (λ why. Refuses why old r new))
at_once old unfit x after = by_option old unfit _ _ (answers old x after) (λ why. refuses old why)

-- a step of the entities that is settled is settled in the world
lifted : {A : Type 0} (w : WorldState) (Step : Indexed Record → Result A Refusal → Indexed Record → Type 0) →
    IsSettled (entities w) (Step (entities w)) → IsSettled w (OnEntities Step w)
lifted w Step s = grind (arith, common_steps)

pub makes_settled : (name_of : Record → Option (List ℕ)) (w : WorldState) (d : Record) → IsSettled w (OnEntities (λ v. Makes name_of v d) w)
makes_settled name_of w d = search (rules, lifted, by_option, refuses, answers)

pub makes_alive_settled : (w : WorldState) (e : Entity) (d : Record) → IsSettled w (OnEntities (λ v. MakesAliveWith v e d) w)
makes_alive_settled w e d = lifted w (λ v. MakesAliveWith v e d) (by_bool (entities w) _ _ _ (answers (entities w) tt _) (refuses (entities w) Taken))

pub admits_settled : (w : WorldState) (n : ℕ) → IsSettled w (OnEntities (λ v. Admits v n) w)
admits_settled w n = lifted w (λ v. Admits v n) (by_bool (entities w) _ _ _ (answers (entities w) tt _) (refuses (entities w) NoMoreIds))

pub renames_settled : (w : WorldState) (e : Entity) (name : Option (List ℕ)) → IsSettled w (Renames w e name)
renames_settled w e name = lifted w (λ v. RenamesWith (λ r. r.name) with_name v e (is_builtin w e) name)
    (at_once (entities w) (unfit_rename (λ r. r.name) (entities w) e (is_builtin w e) name) tt _)

pub removes_settled : (w : WorldState) (e : Entity) (i : Id) → IsSettled w (Removes w e i)
removes_settled w e i = at_once w (unfit_actor w e) tt _

pub clears_settled : (w : WorldState) (e : Entity) → IsSettled w (Clears w e)
clears_settled w e = at_once w (unfit_actor w e) tt _

pub removes_all_settled : (w : WorldState) (i : Id) → IsSettled w (RemovesAll w i)
removes_all_settled w i = by_bool w (is_builtins w i) _ _ (refuses w Reserved) (answers w tt _)

extends_settled : (w : WorldState) (e : Entity) (i : Id) (besides : Record → Record) → IsSettled w (Extends w e i besides)
extends_settled w e i besides = record {
  one = λ r q new other. extends_unique w e i besides r q new other;
  kept = λ why new x. (at_once w x.2 tt (changed (grown w e i x.0) e besides)).kept why new x.4;
}

pub adds_settled : (w : WorldState) (e : Entity) (i : Id) → IsSettled w (Adds w e i)
adds_settled w e i = by_option w (unfit w e i) _ _ (by_bool w (has w e i) _ _ (answers w tt w) (extends_settled w e i unchanged)) (λ why. refuses w why)

pub sets_settled : (w : WorldState) (e : Entity) (i : Id) (v : Value) → IsSettled w (Sets w e i v)
sets_settled w e i v = by_option w (unfit_set w e i v) _ _ (by_bool w (has w e i) _ _ (answers w tt _) (extends_settled w e i (with_value i v)))
    (λ why. refuses w why)

deletes_settled : (w : WorldState) (IsRoot : Entity → Type 0) → IsSettled w (Deletes w IsRoot)
deletes_settled w IsRoot = record { one = λ r q new other. deletes_unique w IsRoot r q new other; kept = λ why new d. (d.2).0 }

pub deletes_one_settled : (w : WorldState) (e : Entity) → IsSettled w (DeletesOne w e)
deletes_one_settled w e = by_option w (unfit_actor w e) _ _ (deletes_settled w (λ x. x ≡ e)) (λ why. refuses w why)

pub deletes_with_settled : (w : WorldState) (i : Id) → IsSettled w (DeletesWith w i)
deletes_with_settled w i = by_bool w (is_builtins w i) _ _ (refuses w Reserved) (deletes_settled w (λ x. IsTrue (has w x i)))
