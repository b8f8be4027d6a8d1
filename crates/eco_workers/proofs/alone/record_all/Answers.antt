use Rattle.eco_workers.proofs.Common.{◌-◌, ap, arith, refl, sym, ◌∙◌, err_from_is_err_and}
use Rattle.eco_workers.proofs.Turns.{turn_more, turn_none, turn_out}
use Rattle.eco_workers.proofs.alone.record_all.Goals as goal

pub loop-piece-init : goal.loop-piece-init
loop-piece-init g c =
    let new = c.requires.new.0 in
    record {
      base = refl;
      limit = refl;
      wet = c.requires.new.1;
      turn = turn_none g.P.Piece.commands g.P.Piece.taken c.args.counter.now.base (c.args.counter.now.next - c.args.counter.now.base) c.args.stage.now
          (omega (arith, new)) c.requires.none;
    }

pub loop-piece-preserved : goal.loop-piece-preserved
loop-piece-preserved g c =
    let i = c.loop-piece.invariant in
    let rest = c.record.ensures.rest in
    record {
      base = ap (λ r. r.0) rest ∙ i.base;
      limit = ap (λ r. r.1) rest ∙ i.limit;
      wet = c.in_ok-record.ensures.wet;
      turn = turn_more g.P.Piece.commands g.P.Piece.taken c.args.pieces.now c.loop-piece.piece-index c.piece-item.result c.loop-piece.counter c.record.new.draws
          c.loop-piece.stage c.record.new.stage c.loop-piece-test.true c.piece-item.is (ap (λ r. r.0) rest) i.turn c.in_ok-record.ensures.ok;
    }

pub returns-in_err-record-clause-out : goal.returns-in_err-record-clause-out
returns-in_err-record-clause-out g c =
    let i = c.loop-piece.invariant in
    let rest = c.record.ensures.rest in
    let p = err_from_is_err_and c.from_residual.result c.from_residual.ensures.1 in
    rw p.1
    (λ no_more. turn_out g.P.Piece.commands g.P.Piece.taken c.args.pieces.now c.loop-piece.piece-index c.piece-item.result c.loop-piece.counter
    c.record.new.draws c.args.counter.now.base c.args.counter.now.limit c.loop-piece.stage _ c.loop-piece-test.true c.piece-item.is
    (ap (λ r. r.0) rest ∙ i.base) (ap (λ r. r.1) rest ∙ i.limit) i.turn c.in_err-record.ensures.err c.in_err-record.ensures.why (sym p.2 ∙ no_more))
