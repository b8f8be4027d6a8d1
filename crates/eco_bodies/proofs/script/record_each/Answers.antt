use Rattle.eco_bodies.proofs.Common.{refl, ◌∙◌}
use Rattle.std.proofs.lemmas.Result.{err_from_is_err_and}
use Rattle.eco_bodies.specs.Scripts.{script_commands, script_taken}
use Rattle.eco_bodies.proofs.Taken.{broke_more, took_more, took_none}
use Rattle.eco_bodies.proofs.script.record_each.Goals as goal

pub loop-place-init : goal.loop-place-init
loop-place-init g c = record {
  rest = refl;
  wet = c.requires;
  took = took_none (script_commands c.args.writes.now c.args.actions.now) (script_taken c.args.actions.now) (g.D.Draws.so_far c.args.draws.now)
      c.args.stage.now;
}

pub loop-place-preserved : goal.loop-place-preserved
loop-place-preserved g c =
    record {
      rest = c.record_in_turn.ensures.rest ∙ c.loop-place.invariant.rest;
      wet = c.in_ok-record_in_turn.ensures.wet;
      took = took_more (script_commands c.args.writes.now c.args.actions.now) (script_taken c.args.actions.now) (g.R.BodyRows.rows_of c.args.rows.now)
          c.loop-place.place _ (g.D.Draws.so_far c.args.draws.now) (g.D.Draws.so_far c.loop-place.draws)
          (g.D.Draws.so_far c.record_in_turn.new.draws) c.args.stage.now c.loop-place.stage c.record_in_turn.new.stage c.row.ensures
          c.loop-place.invariant.took c.in_ok-record_in_turn.ensures.ok;
    }

pub returns-in_err-record_in_turn-clause-err : goal.returns-in_err-record_in_turn-clause-err
returns-in_err-record_in_turn-clause-err g c =
    let p = err_from_is_err_and c.from_residual.result c.from_residual.ensures.1 in
    rw p.1
    (broke_more (script_commands c.args.writes.now c.args.actions.now) (script_taken c.args.actions.now) (g.R.BodyRows.rows_of c.args.rows.now)
    c.loop-place.place _ (g.D.Draws.so_far c.args.draws.now) (g.D.Draws.so_far c.loop-place.draws) (g.D.Draws.so_far c.record_in_turn.new.draws)
    c.args.stage.now c.loop-place.stage (g.D.Draws.is_dry c.record_in_turn.new.draws) c.row.ensures c.loop-place.invariant.took
    c.in_err-record_in_turn.ensures.err)
