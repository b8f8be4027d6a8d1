-- What follows from a step, put together from its ends.
use Rattle.eco_systems.proofs.Common.{◌≡◌, Bool, true, false, Option, Some, None, MatchOption, MatchBool, Result, Ok, Err, refl, sym, subst, Refusal}
use Rattle.eco_systems.proofs.Common.{OutOfMemory, Answers, Refuses, Meets}

-- P holds of each answer of the step, and the state after it
pub record Follows {S : Type 0} (P Step : Result (Unit {0}) Refusal → S → Type 0) : Type 0 where
  pub at : (r : Result (Unit {0}) Refusal) (new : S) → Step r new → P r new

module _ {S : Type 0} {P : Result (Unit {0}) Refusal → S → Type 0} where
  pub from_answer : (after : S) → P (Ok tt) after → Follows P (Answers tt after)
  from_answer after p = record { at = λ r new h. subst (λ q. P q new) (sym h.0) (subst (P (Ok tt)) (sym h.1) p) }

  pub from_refusal : (why : Refusal) (old : S) → P (Err why) old → Follows P (Refuses why old)
  from_refusal why old p = record { at = λ r new h. subst (λ q. P q new) (sym h.0) (subst (P (Err why)) (sym h.1) p) }

  pub unless : (old : S) (o : Option Refusal) (Step : Result (Unit {0}) Refusal → S → Type 0)
      → ((why : Refusal) → o ≡ Some why → P (Err why) old) → Follows P Step
      → Follows P (λ r new. MatchOption o (Step r new) (λ why. Refuses why old r new))
  unless old None Step p q = q
  unless old (Some why) Step p q = from_refusal why old (p why refl)

  pub either : (b : Bool) (X Y : Result (Unit {0}) Refusal → S → Type 0) → Follows P X → Follows P Y
      → Follows P (λ r new. MatchBool b (X r new) (Y r new))
  either true X Y p q = p
  either false X Y p q = q

  -- also where no memory is found
  pub meets : (Step : Result (Unit {0}) Refusal → S → Type 0) (may_want : Bool) (old : S) → P (Err OutOfMemory) old → Follows P Step →
      Follows P (Meets Step may_want old)
  meets Step may_want old p q = record { at = by }
    where
      by : (r : Result (Unit {0}) Refusal) (new : S) → Meets Step may_want old r new → P r new
      by (Ok x) new h = q.at (Ok x) new h
      by (Err OutOfMemory) new h = subst (P (Err OutOfMemory)) (sym h.1) p
      by (Err why) new h = q.at (Err why) new h
