use Rattle.eco_workers.proofs.Common.{ap, err_from_is_err_and, Ticket, drawn, is_dry}
use Rattle.eco_workers.specs.declared.round.Round.{Round}
use Rattle.eco_workers.proofs.Drawn.{broke_indices, is_stopped, took_indices}
use Rattle.eco_workers.proofs.worker.record.Goals as goal

pub returns-in_err-record-clause-claim : goal.returns-in_err-record-clause-claim
returns-in_err-record-clause-claim g c = ap (λ (r : Round × Ticket). r.1) c.record.ensures.rest

pub returns-in_err-record-clause-round : goal.returns-in_err-record-clause-round
returns-in_err-record-clause-round g c = ap (λ (r : Round × Ticket). r.0) c.record.ensures.rest

pub returns-in_err-record-clause-wet : goal.returns-in_err-record-clause-wet
returns-in_err-record-clause-wet g c = let p = err_from_is_err_and c.from_residual.result c.from_residual.ensures.1 in rw p.1 tt

pub returns-in_err-record-clause-why : goal.returns-in_err-record-clause-why
returns-in_err-record-clause-why g c =
    let p = err_from_is_err_and c.from_residual.result c.from_residual.ensures.1 in
    rw (p.1, p.2) (is_stopped (is_dry c.record.new.draws.seat) c.in_err-record.field-0.0 c.in_err-record.ensures.why)

pub returns-in_err-record-clause-ok : goal.returns-in_err-record-clause-ok
returns-in_err-record-clause-ok g c = let p = err_from_is_err_and c.from_residual.result c.from_residual.ensures.1 in rw p.1 tt

pub returns-in_err-record-clause-err : goal.returns-in_err-record-clause-err
returns-in_err-record-clause-err g c =
    let p = err_from_is_err_and c.from_residual.result c.from_residual.ensures.1 in
    rw (p.1, p.2) (broke_indices (drawn c.args.drawer.now.seat) (drawn c.record.new.draws.seat) (g.P.Piece.taken c.args.piece.now)
    (is_dry c.record.new.draws.seat) c.in_err-record.field-0.0 c.in_err-record.ensures.why c.in_err-record.ensures.err)

pub returns-clause-claim : goal.returns-clause-claim
returns-clause-claim g c = ap (λ (r : Round × Ticket). r.1) c.record.ensures.rest

pub returns-clause-round : goal.returns-clause-round
returns-clause-round g c = ap (λ (r : Round × Ticket). r.0) c.record.ensures.rest

pub returns-clause-ok : goal.returns-clause-ok
returns-clause-ok g c =
    let piece = c.args.piece.now in
    took_indices (drawn c.args.drawer.now.seat) (drawn c.record.new.draws.seat) (g.P.Piece.commands piece) (g.P.Piece.taken piece)
    c.clear.new.self c.record.new.stage c.clear.ensures c.in_ok-record.ensures.ok
