use Rattle.eco_store.proofs.AnswersCommon.{subst, AreFixed}
use Rattle.eco_store.proofs.Answered.{asks_asked}
use Rattle.eco_store.proofs.results.results_in.Goals as goal

pub fixed_in-requires-clause-fixed : goal.fixed_in-requires-clause-fixed
fixed_in-requires-clause-fixed c =
    let fixed = rw c.in-Some.is at c.in_ok-choice.ensures in
    subst (λ ts. AreFixed ts c.in-Some.choice.items) (asks_asked c.slots.result.now c.args.query.now c.slots.ensures) fixed
