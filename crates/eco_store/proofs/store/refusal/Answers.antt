use Rattle.eco_store.proofs.Common.{◌≡◌, Option, None, Some, Result, Ok, Err, MatchOption, Refusal}
use Rattle.eco_store.proofs.store.refusal.Goals as goal

name_found : (unfit : Option Refusal) (P : Type 0) (why : Refusal)
    → MatchOption unfit (◌≡◌ {A = Result (Unit {0}) Refusal} (Err why) (Ok tt)) (λ x. ◌≡◌ {A = Result (Unit {0}) Refusal} (Err why) (Err x))
    → MatchOption unfit P (λ x. why ≡ x)
name_found None P why h = absurd (cc)
name_found (Some x) P why h = cc

pub returns-in-Err : goal.returns-in-Err
returns-in-Err c = name_found _ _ c.in-Err.why c.in-Err.ensures
