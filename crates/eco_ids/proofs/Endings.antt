-- What it is for a step to have an end, and how ends are put together.
use Rattle.eco_ids.proofs.Common.{◌≡◌, Bool, true, false, Some, None, Ok, Err, MatchBool, Option, Result, MatchOption, refl, Refusal, Indexed, Refuses, Answers}
use Rattle.eco_ids.proofs.Common.{WorldState, Record, entities, with_entities, OnEntities}

-- some answer, and some state after it
abbrev pub End : {A S : Type 0} → (Result A Refusal → S → Type 0) → Type 0
End {A} {S} Step = (r : Result A Refusal) × (new : S) × Step r new

pub done : {A S : Type 0} (x : A) (after : S) → End (Answers x after)
done x after = (Ok x, after, (refl, refl))

pub refused : {A S : Type 0} (why : Refusal) (old : S) → End {A = A} (Refuses why old)
refused why old = (Err why, old, (refl, refl))

-- what is refused early ends so, and the rest may take that it is not
pub unless : {A S : Type 0} (old : S) (o : Option Refusal) (Step : Result A Refusal → S → Type 0)
    → (o ≡ None → End Step) → End (λ r new. MatchOption o (Step r new) (λ why. Refuses why old r new))
unless old None Step go = go refl
unless old (Some why) Step go = refused why old

pub either : {A S : Type 0} (b : Bool) (P Q : Result A Refusal → S → Type 0) → End P → End Q → End (λ r new. MatchBool b (P r new) (Q r new))
either true P Q p q = p
either false P Q p q = q

pub in_world : {A : Type 0} (w : WorldState) (Step : Indexed Record → Result A Refusal → Indexed Record → Type 0)
    → End (Step (entities w)) → End (OnEntities Step w)
in_world w Step end = (end.0, with_entities w end.1, (end.1, end.2, refl))
