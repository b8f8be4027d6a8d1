use Rattle.eco_workers.proofs.Common.{◌≡◌, ◌+◌, ◌≤◌, length, All, IsNewSeatOf, IsNewJobOf}
use Rattle.eco_workers.proofs.job.share_out.Given as goal

abbrev pub invariant-loop-seat : goal.invariant-loop-seat
invariant-loop-seat l = record {
  count : length l.jobs.items + length l.seats.items ≡ length l.fn.seats.items;
  room : length l.fn.seats.items ≤ l.jobs.cap;
  left : All (IsNewSeatOf l.round) l.seats.items;
  own : All (IsNewJobOf l.round) l.jobs.items;
}

abbrev pub decreases-loop-seat : goal.decreases-loop-seat
decreases-loop-seat l = length l.seats.items
