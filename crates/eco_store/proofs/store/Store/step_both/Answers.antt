use Rattle.eco_store.proofs.Common.{sym, subst, Tries, seen, stepped}
use Rattle.eco_store.proofs.store.Store.step_both.Goals as goal

pub returns : goal.returns
returns c =
    let l = c.self.inside.layout in
    let called = c.step_both-stepped in
    rw (← c.self.view_is)
    (subst (λ v. Tries (seen l) (stepped (stepped (seen l) c.args.first) c.args.second) called.result v) (sym c.forget.ensures.same)
    called.ensures.tries)
