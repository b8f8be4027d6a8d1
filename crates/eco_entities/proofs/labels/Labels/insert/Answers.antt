use Rattle.eco_entities.proofs.Common.{◌≡◌, length, slice_get, refl, sym, ap, ◌∙◌, Some, option_map, arith, Result, Ok, Err, IfOk, slice_get_read}
use Rattle.eco_entities.proofs.Common.{label_text, on_ok}
use Rattle.eco_entities.proofs.PageLists.{changes_then}
use Rattle.eco_entities.proofs.PageNames.{name_put, name_read}
use Rattle.eco_entities.proofs.labels.Labels.insert.Goals as goal

if_ok : {A E : Type 0} {P Q : A → Type 0} (r : Result A E) → ((x : A) → P x → Q x) → IfOk r P → IfOk r Q
if_ok (Ok x) f h = f x h
if_ok (Err e) f h = tt

pub returns-clause-ok : goal.returns-clause-ok
returns-clause-ok c =
    let pages = c.cover.new.pages.items in
    let p = c.page_of-place.result in
    let old = c.index_mut.result.now in
    let there : slice_get pages p ≡ Some old =
    slice_get_read pages (length pages) p old refl (omega (arith, c.in_ok-cover.ensures.enough)) c.index_mut.ensures.value in
    on_ok c.insert.result
    (λ is. changes_then c.cover.ensures.same (name_put pages c.args.index p old c.insert.new.self c.args.name c.page_of-place.ensures there is))
    c.insert.ensures.ok

pub returns-clause-was : goal.returns-clause-was
returns-clause-was c =
    let pages = c.cover.new.pages.items in
    let p = c.page_of-place.result in
    let old = c.index_mut.result.now in
    let there : slice_get pages p ≡ Some old =
    slice_get_read pages (length pages) p old refl (omega (arith, c.in_ok-cover.ensures.enough)) c.index_mut.ensures.value in
    if_ok c.insert.result
    (λ was is. ap (option_map label_text) is
    ∙ (sym (name_read pages c.args.index p old c.page_of-place.ensures there) ∙ c.cover.ensures.same.all c.args.index)) c.insert.ensures.was
