use Rattle.eco_entities.proofs.Common.{sym, ap, ◌∙◌, subst, Some, nat_cmp, find, put, IsEntry, IsGap}
use Rattle.eco_entities.proofs.PageChanges.{entry_read, sorted_put}
use Rattle.eco_entities.proofs.page.Page.insert.Goals as goal

pub returns-in-Ok-clause-ok : goal.returns-in-Ok-clause-ok
returns-in-Ok-clause-ok c =
    let seated = subst (λ xs. IsEntry c.args.index xs c.in-Ok.place) c.as_slice.ensures.value c.in-Ok.ensures in
    let read = entry_read c.args.index c.self.inside.entries.items c.in-Ok.place c.index_mut.result.now seated c.index_mut.ensures.value in
    rw (read.0, c.replace.ensures.after) (sym (seated.put_is c.args.name) ∙ ap (put nat_cmp c.args.index c.args.name) c.self.view_is)

pub returns-in-Ok-clause-was : goal.returns-in-Ok-clause-was
returns-in-Ok-clause-was c =
    let seated = subst (λ xs. IsEntry c.args.index xs c.in-Ok.place) c.as_slice.ensures.value c.in-Ok.ensures in
    let read = entry_read c.args.index c.self.inside.entries.items c.in-Ok.place c.index_mut.result.now seated c.index_mut.ensures.value in
    ap Some c.replace.ensures.value ∙ (read.1 ∙ ap (find nat_cmp c.args.index) c.self.view_is)

pub invariant_of-self : goal.invariant_of-self
invariant_of-self c =
    let seated = subst (λ xs. IsEntry c.args.index xs c.in-Ok.place) c.as_slice.ensures.value c.in-Ok.ensures in
    let read = entry_read c.args.index c.self.inside.entries.items c.in-Ok.place c.index_mut.result.now seated c.index_mut.ensures.value in
    rw (read.0, c.replace.ensures.after, ← seated.put_is c.args.name) (sorted_put c.args.index c.args.name c.self.inside.entries.items c.self.invariant)

pub invariant_of-self-in-Err : goal.invariant_of-self-in-Err
invariant_of-self-in-Err c =
    let gap = subst (λ xs. IsGap c.args.index xs c.in-Err.place) c.as_slice.ensures.value c.in-Err.ensures in
    rw (c.in_ok-insert-in-Err.ensures.items, ← gap.put_is c.args.name)
    (sorted_put c.args.index c.args.name c.self.inside.entries.items c.self.invariant)
