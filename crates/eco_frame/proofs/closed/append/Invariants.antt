use Rattle.eco_frame.proofs.BatchesCommon.{◌≡◌, ◌++◌, map, take, key_pattern}
use Rattle.eco_frame.proofs.closed.append.Given as goal

abbrev pub invariant-loop-key : goal.invariant-loop-key
invariant-loop-key l = l.closed.items ≡ l.initial.closed.items ++ map key_pattern (take l.key-index l.keys)
