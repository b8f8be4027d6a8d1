use Rattle.eco_workers.proofs.Common.{◌≡◌, ◌+◌, ◌≤◌, true, length, List, All, is_done, IsSeatOf, Done, by_index, Entry, IsGathered, IsWorked}
use Rattle.eco_workers.proofs.batch.gather.Given as goal

abbrev pub invariant-loop-one : goal.invariant-loop-one
invariant-loop-one g l = record {
  count : length l.seats.items + length l.worked.items ≡ length l.fn.worked.items;
  room : length l.fn.worked.items ≤ l.seats.cap;
  left : All (IsWorked (by_index g.P.Piece.commands) (by_index g.P.Piece.taken) l.pieces l.round) l.worked.items;
  ended : All (λ w. w.end ≡ Done) l.worked.items;
  own : All (IsSeatOf l.round) l.seats.items;
  done : All (λ s. is_done s ≡ true) l.seats.items;
  log : (log : List Entry) × IsGathered (by_index g.P.Piece.commands) (by_index g.P.Piece.taken) l.pieces l.seats.items l.all.items log;
}

abbrev pub decreases-loop-one : goal.decreases-loop-one
decreases-loop-one g l = length l.worked.items
