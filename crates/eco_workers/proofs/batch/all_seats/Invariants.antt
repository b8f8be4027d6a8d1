use Rattle.eco_workers.proofs.Common.{◌≡◌, ◌+◌, ◌≤◌, length, All, IsSeatOf, by_index, IsWorked}
use Rattle.eco_workers.proofs.Shared.{IsSearched}
use Rattle.eco_workers.proofs.batch.all_seats.Given as goal

abbrev pub invariant-loop-one : goal.invariant-loop-one
invariant-loop-one g l = record {
  count : length l.seats.items + length l.worked.items ≡ length l.fn.worked.items;
  room : length l.fn.worked.items ≤ l.seats.cap;
  left : All (IsWorked (by_index g.P.Piece.commands) (by_index g.P.Piece.taken) l.pieces l.round) l.worked.items;
  own : All (IsSeatOf l.round) l.seats.items;
  searched : IsSearched (by_index g.P.Piece.commands) (by_index g.P.Piece.taken) l.pieces l.fn.worked.items l.worked.items l.seats.items;
}

abbrev pub decreases-loop-one : goal.decreases-loop-one
decreases-loop-one g l = length l.worked.items
