use Rattle.eco_frame.proofs.Common.{◌≡◌, ◌+◌, ◌≤◌, [], ap, append-nil, arith, drop, err_from_is_err_and, length, refl, subst, sym, take}
use Rattle.eco_frame.proofs.Common.{taken_of, true≢false, ◌∙◌}
use Rattle.eco_frame.proofs.Common.{AllTook}
use Rattle.std.proofs.Common.{zero-le}
use Rattle.eco_stages.specs.Taking.{Broke}
use Rattle.eco_frame.specs.Rows.{column_rows}
use Rattle.eco_frame.proofs.Between.{run_stopped, took_all, took_none, took_run}
use Rattle.eco_frame.proofs.piece.record_in_columns.Goals as goal

pub loop-place-init : goal.loop-place-init
loop-place-init g c =
    let body = c.args.body.now in
    record {
      low = omega arith;
      high = c.requires.places.0;
      rest = refl;
      wet = c.requires.wet;
      run = c.new-columns.ensures.run;
      same = c.new-columns.ensures.rows;
      took = took_none (g.B.SystemBody.commands body) (g.B.SystemBody.taken body) c.args.rows.now c.args.first c.args.end
          (g.D.Draws.so_far c.args.draws.now) c.args.stage.now;
    }

pub loop-place-preserved : goal.loop-place-preserved
loop-place-preserved g c =
    let commands = g.B.SystemBody.commands c.args.body.now in
    let taken = g.B.SystemBody.taken c.args.body.now in
    let place = c.loop-place.place in
    let count = length (column_rows c.run-run.result) in
    let same = c.seek.ensures.rows ∙ c.loop-place.invariant.same in
    let low = c.loop-place.invariant.low in
    let below = c.loop-place-test.true in
    let few = c.run-run.ensures.few in
    let high : place + count ≤ c.args.end = omega (arith, below, few) in
    let lent : column_rows c.run-run.result ≡ take count (drop place c.args.rows.now) =
    c.run-run.ensures.are ∙ ap (λ rows. take count (drop place rows)) same in
    let step = c.len-place.ensures in
    rw step
    (record {
      low = omega (arith, low);
      high = high;
      rest = c.record_rows.ensures.rest ∙ c.loop-place.invariant.rest;
      wet = c.in_ok-record_rows.ensures.wet;
      run = c.in_ok-seek.ensures.run;
      same = same;
      took = took_run commands taken c.args.rows.now c.args.first c.args.end place count (g.D.Draws.so_far c.args.draws.now) c.args.stage.now
          low high c.loop-place.invariant.took
          (subst (λ xs. AllTook commands taken xs (g.D.Draws.so_far c.loop-place.draws) (g.D.Draws.so_far c.record_rows.new.draws) c.loop-place.stage
          c.record_rows.new.stage) lent c.in_ok-record_rows.ensures.ok);
    })

pub returns-in_err-record_rows-clause-err : goal.returns-in_err-record_rows-clause-err
returns-in_err-record_rows-clause-err g c =
    let commands = g.B.SystemBody.commands c.args.body.now in
    let taken = g.B.SystemBody.taken c.args.body.now in
    let place = c.loop-place.place in
    let count = length (column_rows c.run-run.result) in
    let below = c.loop-place-test.true in
    let few = c.run-run.ensures.few in
    let p = err_from_is_err_and c.from_residual-in_err-record_rows.result c.from_residual-in_err-record_rows.ensures.1 in
    let lent : column_rows c.run-run.result ≡ take count (drop place c.args.rows.now) =
    c.run-run.ensures.are ∙ ap (λ rows. take count (drop place rows)) (c.seek.ensures.rows ∙ c.loop-place.invariant.same) in
    rw p.1
    (run_stopped commands taken c.args.rows.now c.args.first c.args.end place count _ _ c.loop-place.invariant.low (omega (arith, below, few))
    c.loop-place.invariant.took
    (subst (λ xs. Broke (taken_of taken xs) (g.D.Draws.so_far c.loop-place.draws) (g.D.Draws.so_far c.record_rows.new.draws)
    (g.D.Draws.is_dry c.record_rows.new.draws)) lent c.in_err-record_rows.ensures.err))

pub returns-in_err-seek-clause-err : goal.returns-in_err-seek-clause-err
returns-in_err-seek-clause-err g c =
    let below = c.loop-place-test.true in
    let wet = c.loop-place.invariant.wet in
    let p = err_from_is_err_and c.from_residual.result c.from_residual.ensures.1 in
    rw p.1
    (run_stopped (g.B.SystemBody.commands c.args.body.now) (g.B.SystemBody.taken c.args.body.now) c.args.rows.now c.args.first c.args.end
    c.loop-place.place 0 _ _ c.loop-place.invariant.low (omega (arith, below)) c.loop-place.invariant.took
    ([], sym (append-nil (g.D.Draws.so_far c.loop-place.draws)), λ later. zero-le, λ dry. absurd (true≢false (sym dry ∙ wet))))

pub returns-clause-ok : goal.returns-clause-ok
returns-clause-ok g c =
    let test = c.loop-place-test.false in
    let past : c.args.end ≤ c.loop-place.place = omega (arith, test) in
    took_all (g.B.SystemBody.commands c.args.body.now) (g.B.SystemBody.taken c.args.body.now) c.args.rows.now c.args.first c.args.end c.loop-place.place
    _ _ c.requires.places.0 c.requires.places.1 past c.loop-place.invariant.took
