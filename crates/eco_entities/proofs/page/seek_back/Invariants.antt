use Rattle.eco_entities.proofs.Common.{◌≡◌, ◌≤◌, length, drop, Err}
use Rattle.eco_entities.proofs.Seats.{seat}
use Rattle.eco_entities.proofs.page.seek_back.Given as goal

abbrev pub invariant-loop-place : goal.invariant-loop-place
invariant-loop-place l = (l.place ≤ length l.entries) × (seat l.index (drop l.place l.entries) ≡ Err 0)

abbrev pub decreases-loop-place : goal.decreases-loop-place
decreases-loop-place l = l.place
