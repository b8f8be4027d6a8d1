use Rattle.eco_workers.proofs.Common.{refl, slice_get_read, err_from_is_err_and}
use Rattle.eco_workers.proofs.worker.one_piece.Goals as goal

pub returns-clause-piece : goal.returns-clause-piece
returns-clause-piece g c =
    let read = c.index-pieces-number in
    let at = slice_get_read c.args.pieces.now _ c.args.number read.result refl c.requires.number read.is in
    let made = c.in_ok-stage.ensures.ok in
    (refl, c.in_ok-stage.ensures.wet, (made.0, made.1, record { piece = read.result; at = at; stage = made.2 }))

pub returns-in_err-stage-clause-err : goal.returns-in_err-stage-clause-err
returns-in_err-stage-clause-err g c =
    let read = c.index-pieces-number in
    let at = slice_get_read c.args.pieces.now _ c.args.number read.result refl c.requires.number read.is in
    let broke = c.in_err-stage.ensures.err in
    let p = err_from_is_err_and c.from_residual.result c.from_residual.ensures.1 in
    rw (p.1, p.2) (
      broke.0,
      broke.1,
      record { piece = read.result; at = at; most = broke.2 },
      (λ out. let more = broke.3 out in (more.0, record { piece = read.result; at = at; more = more.1 })),
    )
