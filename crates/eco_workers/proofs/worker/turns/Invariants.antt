use Rattle.eco_workers.proofs.Common.{◌≡◌, ◌+◌, length, claimed, by_index, IsGoing}
use Rattle.eco_workers.proofs.worker.turns.Given as goal

abbrev pub invariant-loop : goal.invariant-loop
invariant-loop g l = record {
  round : l.drawer.round.now ≡ l.fn.drawer.round.now;
  count : length (claimed l.drawer.seat) ≡ l.counter;
  most : l.most ≡ length l.pieces + 1;
  going : IsGoing (by_index g.P.Piece.commands) (by_index g.P.Piece.taken) l.pieces l.drawer.seat l.collected.items;
}
