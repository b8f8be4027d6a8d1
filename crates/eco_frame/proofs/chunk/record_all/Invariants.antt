use Rattle.eco_frame.proofs.Common.{◌≡◌, false, take}
use Rattle.eco_frame.proofs.Chunks.{TookOwn}
use Rattle.eco_frame.proofs.chunk.record_all.Given as goal

-- the pieces so far
abbrev pub invariant-loop-piece : goal.invariant-loop-piece
invariant-loop-piece g l = record {
  rest : g.D.Draws.rest l.draws ≡ g.D.Draws.rest l.fn.draws;
  wet : g.D.Draws.is_dry l.draws ≡ false;
  took :
      TookOwn g.P.Piece.commands g.P.Piece.taken (take l.piece-index l.pieces) (g.D.Draws.so_far l.fn.draws) (g.D.Draws.so_far l.draws) l.fn.stage l.stage;
}
