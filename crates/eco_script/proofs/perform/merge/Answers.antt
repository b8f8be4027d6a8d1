use Rattle.eco_script.proofs.Common.{Ok, Err, refl, err_from_is_err_and, stages_view}
use Rattle.eco_stages.specs.Merging.{all_commands}
use Rattle.eco_script.proofs.MergeSteps.{made_merge, refused_merge}
use Rattle.eco_script.proofs.perform.merge.Goals as goal

pub returns-in_err-recorded : goal.returns-in_err-recorded
returns-in_err-recorded c =
    let p = err_from_is_err_and c.from_residual.result c.from_residual.ensures.1 in
    rw (p.1, p.2)
    (refused_merge c.args.world.now c.args.admitted (stages_view c.args.stages) c.in_err-recorded.field-0.0 c.in_err-recorded.ensures.read
    c.in_err-recorded.ensures.wanting)

pub returns-in_err-report : goal.returns-in_err-report
returns-in_err-report c =
    let p = err_from_is_err_and c.from_residual-in_err-report.result c.from_residual-in_err-report.ensures.1 in
    rw (p.1, p.2)
    (made_merge c.args.world.now c.args.admitted (stages_view c.args.stages) (all_commands c.in_ok-recorded.recorded.items) (Err c.in_err-report.field-0.0)
    c.merge.new.self (c.in_ok-recorded.ensures.read refl) (rw c.as_slice.ensures.value at c.in_err-report.ensures))

pub returns : goal.returns
returns c =
    made_merge c.args.world.now c.args.admitted (stages_view c.args.stages) (all_commands c.in_ok-recorded.recorded.items) (Ok c.in_ok-report.report)
    c.merge.new.self (c.in_ok-recorded.ensures.read refl) (rw c.as_slice.ensures.value at c.in_ok-report.ensures)
