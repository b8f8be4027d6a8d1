use Rattle.eco_store.proofs.Common.{refl, all_staying, then_rows}
use Rattle.eco_store.proofs.Laid.{plans_same, plans_target}
use Rattle.eco_store.proofs.Targets.{is_targeted}
use Rattle.eco_store.proofs.layout.Layout.step_target.Goals as goal

pub returns-in_err-to-clause-plans : goal.returns-in_err-to-clause-plans
returns-in_err-to-clause-plans c =
    let l = c.args.self.now in
    plans_same l c.requires.laid c.step.new.self l.staying c.step.ensures.finds.rows c.step.ensures.finds.widths
    (c.in_err-to.ensures.finds.rowless (all_staying l.staying) c.requires.laid.tidy) refl

pub returns-in-Err-clause-plans : goal.returns-in-Err-clause-plans
returns-in-Err-clause-plans c =
    let l = c.args.self.now in
    let slots = all_staying l.staying in
    plans_same l c.requires.laid c.drop_empty.new.self c.add_target.new.self (then_rows _ _ _ c.step.ensures.finds.rows c.drop_empty.ensures.rows)
    (λ was. c.drop_empty.ensures.widths _ (c.step.ensures.finds.widths was))
    (c.drop_empty.ensures.rowless slots (c.in_ok-to.ensures.finds.rowless slots c.requires.laid.tidy)) c.in-Err.ensures.err

pub returns-clause-plans : goal.returns-clause-plans
returns-clause-plans c =
    let l = c.args.self.now in
    plans_target l c.requires.laid c.step.new.self c.add_target.new.self c.step.ensures.finds.rows c.step.ensures.finds.widths c.in_ok-to.to
    (c.in_ok-to.ensures.finds.rowless (all_staying l.staying) c.requires.laid.tidy) c.in_default.ensures.ok

pub returns-clause-named : goal.returns-clause-named
returns-clause-named c = rw c.in_default.ensures.ok (is_targeted c.args.self.now.staying c.in_ok-to.to)
