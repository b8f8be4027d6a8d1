use Rattle.eco_script.proofs.FormatsCommon.{Ok, refl, ap, subst, take_all, err_from_is_err_and, command_view, commands_view, ReadsCommand, ReadsCommands}
use Rattle.eco_stages.specs.Commands.{command_of}
use Rattle.eco_script.proofs.Recorded.{one_more, one_refused, some_within, was_ok}
use Rattle.eco_script.proofs.recording.record_stage.Goals as goal

pub loop-place-init : goal.loop-place-init
loop-place-init c = ap Ok c.new-stage.ensures

pub unwrap-requires : goal.unwrap-requires
unwrap-requires c =
    some_within command_view c.get.result (commands_view c.args.commands) c.loop-place.place c.get.ensures
    (rw c.len-place-end.ensures at c.loop-place-test.true)

pub loop-place-preserved : goal.loop-place-preserved
loop-place-preserved c =
    rw (was_ok c.record.result c.if-is_err.ensures.value c.record.ensures.ok)
    (one_more (ReadsCommand c.args.world.now) command_view (commands_view c.args.commands) c.loop-place.place _ _ c.get.ensures c.unwrap.ensures
    c.loop-place.stage c.loop-place.invariant (command_of c.in_ok-command.command) (c.in_ok-command.ensures refl))

pub returns-in_err-command : goal.returns-in_err-command
returns-in_err-command c =
    let p = err_from_is_err_and c.from_residual.result c.from_residual.ensures.1 in
    rw (p.1, p.2) (λ plain.
    one_refused (ReadsCommand c.args.world.now) command_view (commands_view c.args.commands) c.loop-place.place _ _ c.get.ensures c.unwrap.ensures
    c.loop-place.stage c.loop-place.invariant c.in_err-command.field-0.0 (c.in_err-command.ensures plain))

pub returns : goal.returns
returns c = λ _.
    subst (λ xs. ReadsCommands c.args.world.now xs (Ok c.loop-place.stage))
    (take_all c.loop-place.place (commands_view c.args.commands) (rw c.len-place-end.ensures at c.loop-place-test.false)) c.loop-place.invariant
