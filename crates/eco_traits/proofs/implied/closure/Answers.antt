use Rattle.eco_traits.proofs.Common.{sym, ap, ◌∙◌, subst, true≢false, IsFalse, IfOk-weaker, WITH, Two, id_cmp, with_item, IsClosure, has}
use Rattle.eco_traits.proofs.Closures.{closure_alone}
use Rattle.eco_traits.proofs.Walks.{has_nothing}
use Rattle.eco_traits.proofs.implied.closure.Goals as goal

pub returns-in-None-clause-exact : goal.returns-in-None-clause-exact
returns-in-None-clause-exact g c =
    let w = g.H.Holdings.world c.args.holdings.now in
    let alone = closure_alone w c.args.id (λ x h. true≢false (sym h
    ∙ subst (λ e. IsFalse (has w e (Two WITH x))) c.head_of.ensures (has_nothing w c.head_of.result (Two WITH x) c.in-None.ensures))) in
    IfOk-weaker c.with-in-None.result _ _
    (λ s is. subst (IsClosure w c.args.id) (sym (is ∙ ap (λ xs. with_item id_cmp xs c.args.id) c.empty.ensures)) alone) c.with-in-None.ensures.is
