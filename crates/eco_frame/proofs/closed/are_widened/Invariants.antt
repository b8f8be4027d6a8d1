use Rattle.eco_frame.proofs.BatchesCommon.{◌≡◌, ◌≤◌, length, map, take, unrepeated}
use Rattle.eco_systems.specs.Writes as writes
use Rattle.eco_frame.proofs.closed.are_widened.Given as goal

abbrev pub invariant-loop-pattern : goal.invariant-loop-pattern
invariant-loop-pattern g l = record {
  within : l.found ≤ length l.closed;
  made : take l.found l.closed ≡ unrepeated (map (writes.widened (g.H.Holdings.world l.holdings)) (take l.pattern-index l.patterns));
}
