use Rattle.eco_frame.proofs.Common.{ap, flat_map, IfErr-weaker, IfOk-weaker, by_index, ◌∙◌}
use Rattle.eco_frame.specs.Chunks.{chunk_pieces}
use Rattle.eco_frame.proofs.Chunked.{as_pieces, pieces_out}
use Rattle.eco_frame.proofs.Fresh.{as_batch, as_out}
use Rattle.eco_frame.proofs.batch.record_pieces.Goals as goal

pub returns-then-workers-eq1-clause-batch : goal.returns-then-workers-eq1-clause-batch
returns-then-workers-eq1-clause-batch g c =
    IfOk-weaker c.record_alone.result _ _
    (λ r h. (h.stages, as_batch (by_index g.P.Piece.commands) (by_index g.P.Piece.taken) c.args.workers c.args.base r.1 c.args.pieces.now _ h, h.whole))
    c.record_alone.ensures.batch

pub returns-then-workers-eq1-clause-out : goal.returns-then-workers-eq1-clause-out
returns-then-workers-eq1-clause-out g c =
    IfErr-weaker c.record_alone.result _ _
    (λ e h no. as_out (by_index g.P.Piece.commands) (by_index g.P.Piece.taken) c.args.base c.args.limit c.args.pieces.now c.requires.indices.0 (h no))
    c.record_alone.ensures.out

pub returns-clause-batch : goal.returns-clause-batch
returns-clause-batch g c =
    let commands = g.P.Piece.commands in
    let taken = g.P.Piece.taken in
    IfOk-weaker c.run_batch.result _ _
    (λ r h. as_pieces commands taken chunk_pieces c.args.workers c.args.base r.1 c.args.pieces.now c.deref.result.now r.0.items
    (ap (flat_map chunk_pieces) c.deref.ensures.value ∙ c.in_ok-chunks.ensures.whole) h)
    c.run_batch.ensures.batch

pub returns-clause-out : goal.returns-clause-out
returns-clause-out g c =
    let commands = g.P.Piece.commands in
    let taken = g.P.Piece.taken in
    IfErr-weaker c.run_batch.result _ _
    (λ e h no. pieces_out commands taken chunk_pieces c.args.base c.args.limit c.args.pieces.now c.deref.result.now
    (ap (flat_map chunk_pieces) c.deref.ensures.value ∙ c.in_ok-chunks.ensures.whole) (h no))
    c.run_batch.ensures.out
