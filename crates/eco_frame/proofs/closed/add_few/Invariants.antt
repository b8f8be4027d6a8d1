use Rattle.eco_frame.proofs.BatchesCommon.{◌≡◌, map, take, insert_all, same_pattern}
use Rattle.eco_systems.specs.Writes as writes
use Rattle.eco_frame.proofs.closed.add_few.Given as goal

abbrev pub invariant-loop-pattern : goal.invariant-loop-pattern
invariant-loop-pattern g l = l.closed.items ≡ insert_all same_pattern l.initial.closed.items
    (map (writes.widened (g.H.Holdings.world l.holdings)) (take l.pattern-index l.patterns))
