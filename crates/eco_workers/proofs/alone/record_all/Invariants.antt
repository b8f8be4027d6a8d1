use Rattle.eco_workers.proofs.Common.{◌≡◌, ◌-◌, false, take, IsInTurn, by_index}
use Rattle.eco_workers.proofs.alone.record_all.Given as goal

-- the pieces so far
abbrev pub invariant-loop-piece : goal.invariant-loop-piece
invariant-loop-piece g l = record {
  base : l.counter.base ≡ l.initial.counter.base;
  limit : l.counter.limit ≡ l.initial.counter.limit;
  wet : l.counter.dry ≡ false;
  turn : IsInTurn (by_index g.P.Piece.commands) (by_index g.P.Piece.taken) (take l.piece-index l.pieces) l.counter.base (l.counter.next - l.counter.base)
      l.stage;
}
