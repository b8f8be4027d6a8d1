use Rattle.eco_entities.proofs.Common.{ap, ◌∙◌, subst, nat_cmp, find, IsEntry}
use Rattle.eco_entities.proofs.PageChanges.{entry_read, sorted_where}
use Rattle.eco_entities.proofs.page.Page.remove.Goals as goal

pub returns-in-Ok-clause-was : goal.returns-in-Ok-clause-was
returns-in-Ok-clause-was c =
    let k = c.args.index in
    let es = c.self.inside.entries.items in
    let seated : IsEntry k es c.in-Ok.place = subst (λ xs. IsEntry k xs c.in-Ok.place) c.as_slice.ensures.value c.in-Ok.ensures in
    (entry_read k es c.in-Ok.place c.remove.result seated c.remove.ensures.value).1 ∙ ap (find nat_cmp k) c.self.view_is

pub invariant_of-self : goal.invariant_of-self
invariant_of-self c =
    let k = c.args.index in
    let es = c.self.inside.entries.items in
    let seated : IsEntry k es c.in-Ok.place = subst (λ xs. IsEntry k xs c.in-Ok.place) c.as_slice.ensures.value c.in-Ok.ensures in
    rw (c.remove.ensures.items, ← seated.left) (sorted_where _ es c.self.invariant)
