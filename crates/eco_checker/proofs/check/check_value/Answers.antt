use Rattle.eco_checker.proofs.Common.{view, step_in, edition_in, items_in}
use Rattle.eco_checker.proofs.Lines.{same_faults}
use Rattle.eco_checker.proofs.Listed.{are_below}
use Rattle.eco_checker.proofs.check.check_value.Goals as goal

pub push_report-requires : goal.push_report-requires
push_report-requires c =
    let d = view c.args.value.now in
    are_below (step_in (edition_in d)) (λ v. view v) c.in_ok-faults.faults.items.now (items_in d) c.in_ok-faults.faults.steps.items
    c.in_ok-faults.ensures.items c.in_ok-faults.ensures.steps

pub returns-clause-none : goal.returns-clause-none
returns-clause-none c = λ _ s is.
    let yes = c.is_empty.ensures.1 (c.in_ok-faults.ensures.none s is) in cc (yes, c.if-is_empty.false)

pub returns-clause-faults : goal.returns-clause-faults
returns-clause-faults c = λ _.
    let (told, are, is) = c.in_ok-push_report.ensures in
    (told, same_faults _ _ _ _ told c.in_ok-faults.ensures.head c.in_ok-faults.ensures.steps are, is)
