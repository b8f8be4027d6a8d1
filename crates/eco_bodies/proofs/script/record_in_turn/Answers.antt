use Rattle.eco_bodies.proofs.Common.{◌∙◌, slice_get-get_or, action_commands, takes_draws}
use Rattle.std.proofs.lemmas.Result.{err_from_is_err_and}
use Rattle.eco_bodies.proofs.Taken.{broke_more, took_more}
use Rattle.eco_bodies.proofs.script.record_in_turn.Goals as goal

pub loop-action-preserved : goal.loop-action-preserved
loop-action-preserved g c =
    let actions = c.args.actions.now in
    record {
      rest = c.record_action.ensures.rest ∙ c.loop-action.invariant.rest;
      wet = c.in_ok-record_action.ensures.wet;
      took = took_more (action_commands c.args.writes.now (g.R.BodyRow.row_of c.args.row.now)) takes_draws actions c.loop-action.action-index _
          (g.D.Draws.so_far c.args.draws.now) (g.D.Draws.so_far c.loop-action.draws) (g.D.Draws.so_far c.record_action.new.draws)
          c.args.stage.now c.loop-action.stage c.record_action.new.stage (slice_get-get_or actions c.loop-action.action-index _ c.loop-action-test.true)
          c.loop-action.invariant.took c.in_ok-record_action.ensures.ok;
    }

pub returns-in_err-record_action-clause-err : goal.returns-in_err-record_action-clause-err
returns-in_err-record_action-clause-err g c =
    let actions = c.args.actions.now in
    let p = err_from_is_err_and c.from_residual.result c.from_residual.ensures.1 in
    rw p.1
    (broke_more (action_commands c.args.writes.now (g.R.BodyRow.row_of c.args.row.now)) takes_draws actions c.loop-action.action-index _
    (g.D.Draws.so_far c.args.draws.now) (g.D.Draws.so_far c.loop-action.draws) (g.D.Draws.so_far c.record_action.new.draws)
    c.args.stage.now c.loop-action.stage (g.D.Draws.is_dry c.record_action.new.draws)
    (slice_get-get_or actions c.loop-action.action-index _ c.loop-action-test.true) c.loop-action.invariant.took c.in_err-record_action.ensures.err)
