use Rattle.eco_frame.proofs.Common.{◌≤◌, ◌∙◌, refl, arith, err_from_is_err_and}
use Rattle.eco_frame.proofs.Between.{stopped, took_all, took_more, took_none}
use Rattle.eco_frame.proofs.piece.record_between.Goals as goal

pub loop-place-init : goal.loop-place-init
loop-place-init g c =
    let body = c.args.body.now in
    record {
      rest = refl;
      wet = c.requires.wet;
      took = took_none (g.B.SystemBody.commands body) (g.B.SystemBody.taken body) c.args.rows.now c.args.first c.args.end
          (g.D.Draws.so_far c.args.draws.now) c.args.stage.now;
    }

pub loop-place-preserved : goal.loop-place-preserved
loop-place-preserved g c =
    let commands = g.B.SystemBody.commands c.args.body.now in
    let taken = g.B.SystemBody.taken c.args.body.now in
    record {
      rest = c.record.ensures.rest ∙ c.loop-place.invariant.rest;
      wet = c.in_ok-record.ensures.wet;
      took = took_more commands taken c.args.rows.now c.args.first c.args.end c.loop-place.place _ _ c.loop-place.auto.place c.loop-place-test.true
          c.requires.places.1 c.get.ensures c.loop-place.invariant.took (c.rows_are_recorded_one_by_one.ensures.next commands taken) c.in_ok-record.ensures.ok;
    }

pub returns-in_err-record-clause-err : goal.returns-in_err-record-clause-err
returns-in_err-record-clause-err g c =
    let commands = g.B.SystemBody.commands c.args.body.now in
    let taken = g.B.SystemBody.taken c.args.body.now in
    let p = err_from_is_err_and c.from_residual.result c.from_residual.ensures.1 in
    rw p.1
    (stopped commands taken c.args.rows.now c.args.first c.args.end c.loop-place.place _ _ c.loop-place.auto.place c.loop-place-test.true c.requires.places.1
    c.get.ensures c.loop-place.invariant.took (c.rows_are_recorded_one_by_one.ensures.breaks commands taken) c.in_err-record.ensures.err)

pub returns-clause-ok : goal.returns-clause-ok
returns-clause-ok g c =
    let test = c.loop-place-test.false in
    let past : c.args.end ≤ c.loop-place.place = omega (arith, test) in
    took_all (g.B.SystemBody.commands c.args.body.now) (g.B.SystemBody.taken c.args.body.now) c.args.rows.now c.args.first c.args.end c.loop-place.place
    _ _ c.requires.places.0 c.requires.places.1 past c.loop-place.invariant.took
