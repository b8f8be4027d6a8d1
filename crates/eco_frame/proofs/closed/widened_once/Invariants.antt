use Rattle.eco_frame.proofs.BatchesCommon.{◌≡◌, map, take, unrepeated, key_pattern}
use Rattle.eco_systems.specs.Writes as writes
use Rattle.eco_frame.proofs.closed.widened_once.Given as goal

abbrev pub invariant-loop-key : goal.invariant-loop-key
invariant-loop-key g l = map key_pattern l.all.keys
    ≡ unrepeated (map (writes.widened (g.H.Holdings.world l.holdings)) (map key_pattern (take l.key-index l.keys)))
