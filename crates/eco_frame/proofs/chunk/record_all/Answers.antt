use Rattle.eco_frame.proofs.Common.{refl, ◌∙◌, err_from_is_err_and}
use Rattle.eco_frame.proofs.Chunks.{stopped, took_more, took_none, took_whole}
use Rattle.eco_frame.proofs.chunk.record_all.Goals as goal

pub loop-piece-init : goal.loop-piece-init
loop-piece-init g c = record {
  rest = refl;
  wet = c.requires;
  took = took_none g.P.Piece.commands g.P.Piece.taken (g.D.Draws.so_far c.args.draws.now) c.args.stage.now;
}

pub loop-piece-preserved : goal.loop-piece-preserved
loop-piece-preserved g c =
    let i = c.loop-piece.invariant in
    record {
      rest = c.record.ensures.rest ∙ i.rest;
      wet = c.in_ok-record.ensures.wet;
      took = took_more g.P.Piece.commands g.P.Piece.taken c.args.pieces.now c.loop-piece.piece-index c.piece-item.result c.loop-piece-test.true c.piece-item.is
          _ _ _ _ i.took _ _ c.in_ok-record.ensures.ok;
    }

pub returns-in_err-record-clause-err : goal.returns-in_err-record-clause-err
returns-in_err-record-clause-err g c =
    let p = err_from_is_err_and c.from_residual.result c.from_residual.ensures.1 in
    rw p.1
    (stopped g.P.Piece.commands g.P.Piece.taken c.args.pieces.now c.loop-piece.piece-index c.piece-item.result c.loop-piece-test.true c.piece-item.is
    _ _ _ _ c.loop-piece.invariant.took _ _ c.in_err-record.ensures.err)

pub returns-clause-ok : goal.returns-clause-ok
returns-clause-ok g c =
    took_whole g.P.Piece.commands g.P.Piece.taken c.args.pieces.now c.loop-piece.piece-index _ _ _ _ c.loop-piece-test.false c.loop-piece.invariant.took
