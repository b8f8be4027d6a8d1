use Rattle.eco_traits.proofs.Common.{◌≡◌, ◌++◌, sym, ap, ◌∙◌, subst, option_to_list, or-false, append-nil, take_all, err_from_is_err_and}
use Rattle.eco_traits.proofs.Common.{entity_cmp, has_item, AppendsTargets}
use Rattle.eco_traits.proofs.Walks.{targets_more}
use Rattle.eco_traits.proofs.walk.append_targets.Goals.{in-Some+in_ok-push, in_default}
use Rattle.eco_traits.proofs.walk.append_targets.Goals as goal

pub loop-id-init : goal.loop-id-init
loop-id-init c = λ b. sym (or-false _)

pub loop-id-preserved : goal.loop-id-preserved
loop-id-preserved c =
    let at = c.loop-id in
    let put : c.match-target_by.found.items ≡ at.found.items ++ option_to_list c.target_by.result =
    elim c.match-target_by.branch [
      | in-Some+in_ok-push w ↦ rw (w.found-is, w.in-Some.is) w.in_ok-push.ensures.items
      | in_default w ↦ rw (w.found-is, w.in_default.is) (sym (append-nil at.found.items))
    ] in
    λ b. ap (λ xs. has_item entity_cmp xs b) put
    ∙ targets_more c.args.ids.now at.id-index _ c.args.found.now.items at.found.items c.target_by.result c.args.relationship b c.loop-id-test.true
    c.target_by.ensures (at.invariant b)

pub returns-in_err-push : goal.returns-in_err-push
returns-in_err-push c = let p = err_from_is_err_and c.from_residual.result c.from_residual.ensures.1 in rw p.1 tt

pub returns : goal.returns
returns c =
    let at = c.loop-id in
    subst (λ ids. AppendsTargets c.args.relationship ids c.args.found.now.items at.found.items)
    (take_all at.id-index c.args.ids.now c.loop-id-test.false) at.invariant
