use Rattle.eco_frame.proofs.Common.{◌≡◌, ◌+◌, Ok, inr, length, map, refl, sym, ap, ◌∙◌, subst, err_from_is_err_and, NoMoreIds, OutOfMemory}
use Rattle.eco_frame.proofs.Common.{all_commands, Merges, model_at, model_of}
use Rattle.eco_frame.proofs.Merged.{has_run, merge_wanted}
use Rattle.eco_frame.proofs.batch.run_next.Goals as goal

pub returns-clause-ok : goal.returns-clause-ok
returns-clause-ok g c =
    let b = g.B.SystemBody in
    let w = c.args.world.now in
    let stages = c.in_ok-stages.stages.items in
    let n = c.in_ok-stages.drawn in
    let new = c.merge.new.self in
    let batch = map (model_at (map (model_of b.reads_of b.writes_of b.kills_of b.taken b.commands) c.args.systems.now)) c.args.places.now in
    let before = c.args.done.now in
    let merged = subst (λ ss. Merges w n (all_commands ss) (Ok c.in_ok-report.report) new) c.deref-2.ensures.value c.in_ok-report.ensures in
    has_run c.args.workers w new batch (all_commands stages) n before c.push.new.self c.in_ok-report.report c.in_ok-stages.ensures.ok
    c.in_ok-stages.ensures.most merged c.in-Some.commands c.in-Some.in_all
    (c.in-Some.ensures.0 ∙ ap (λ ss. before.commands + length (all_commands ss)) c.deref.ensures.value) c.in-Some.ensures.1 c.push.ensures

pub returns-in_err-stages-clause-err : goal.returns-in_err-stages-clause-err
returns-in_err-stages-clause-err g c =
    let p = err_from_is_err_and c.from_residual.result c.from_residual.ensures.1 in
    rw p.1 (refl, refl)

pub returns-in_err-stages-clause-why : goal.returns-in_err-stages-clause-why
returns-in_err-stages-clause-why g c =
    let p = err_from_is_err_and c.from_residual.result c.from_residual.ensures.1 in
    rw (p.1, p.2) c.in_err-stages.ensures.why

pub returns-in_err-stages-clause-out : goal.returns-in_err-stages-clause-out
returns-in_err-stages-clause-out g c =
    let p = err_from_is_err_and c.from_residual.result c.from_residual.ensures.1 in
    rw (p.1, p.2) c.in_err-stages.ensures.out

pub returns-in_err-report-clause-err : goal.returns-in_err-report-clause-err
returns-in_err-report-clause-err g c =
    let commands = all_commands c.deref-2.result.now in
    let want = merge_wanted c.args.world.now c.in_ok-stages.drawn commands c.in_ok-stages.ensures.most _ _ _ c.in_err-report.ensures in
    let p = err_from_is_err_and c.from_residual-in_err-report.result c.from_residual-in_err-report.ensures.1 in
    rw p.1 (want.1, refl)

pub returns-in_err-report-clause-why : goal.returns-in_err-report-clause-why
returns-in_err-report-clause-why g c =
    let commands = all_commands c.deref-2.result.now in
    let want = merge_wanted c.args.world.now c.in_ok-stages.drawn commands c.in_ok-stages.ensures.most _ _ _ c.in_err-report.ensures in
    let p = err_from_is_err_and c.from_residual-in_err-report.result c.from_residual-in_err-report.ensures.1 in
    rw (p.1, p.2) (inr want.0)

pub returns-in_err-report-clause-out : goal.returns-in_err-report-clause-out
returns-in_err-report-clause-out g c =
    let commands = all_commands c.deref-2.result.now in
    let want = merge_wanted c.args.world.now c.in_ok-stages.drawn commands c.in_ok-stages.ensures.most _ _ _ c.in_err-report.ensures in
    let p = err_from_is_err_and c.from_residual-in_err-report.result c.from_residual-in_err-report.ensures.1 in
    rw (p.1, p.2) (λ gone. let both : NoMoreIds ≡ OutOfMemory = sym gone ∙ want.0 in absurd cc)
