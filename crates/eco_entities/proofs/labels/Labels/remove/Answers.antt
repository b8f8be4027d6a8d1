use Rattle.eco_entities.proofs.Common.{length, slice_get, refl, sym, ap, ◌∙◌, ◌≡◌, Some, option_map, arith, slice_get_read, label_text}
use Rattle.eco_entities.proofs.PageNames.{name_read, name_taken, nameless}
use Rattle.eco_entities.proofs.labels.Labels.remove.Goals as goal

pub returns-then-place-len-clause-removed : goal.returns-then-place-len-clause-removed
returns-then-place-len-clause-removed c =
    let pages = c.args.self.now.pages.items in
    let p = c.page_of-place.result in
    let old = c.index_mut.result.now in
    let there : slice_get pages p ≡ Some old =
    slice_get_read pages (length pages) p old refl (omega (arith, c.if-place-len.true, c.len.ensures)) c.index_mut.ensures.value in
    name_taken pages c.args.index p old c.remove.new.self c.page_of-place.ensures there c.remove.ensures.removed

pub returns-then-place-len-clause-was : goal.returns-then-place-len-clause-was
returns-then-place-len-clause-was c =
    let pages = c.args.self.now.pages.items in
    let p = c.page_of-place.result in
    let old = c.index_mut.result.now in
    let there : slice_get pages p ≡ Some old =
    slice_get_read pages (length pages) p old refl (omega (arith, c.if-place-len.true, c.len.ensures)) c.index_mut.ensures.value in
    ap (option_map label_text) c.remove.ensures.was ∙ sym (name_read pages c.args.index p old c.page_of-place.ensures there)

pub returns-else-place-len-clause-removed : goal.returns-else-place-len-clause-removed
returns-else-place-len-clause-removed c = record {
  here = nameless c.args.self.now.pages.items c.args.index c.page_of-place.result c.page_of-place.ensures
      (omega (arith, c.if-place-len.false, c.len.ensures));
  others = λ j apart. refl;
}

pub returns-else-place-len-clause-was : goal.returns-else-place-len-clause-was
returns-else-place-len-clause-was c =
    sym (nameless c.args.self.now.pages.items c.args.index c.page_of-place.result c.page_of-place.ensures
    (omega (arith, c.if-place-len.false, c.len.ensures)))
