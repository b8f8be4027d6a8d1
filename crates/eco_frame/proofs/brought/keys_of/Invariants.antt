use Rattle.eco_frame.proofs.BatchesCommon.{◌≡◌, map, take, pattern_key}
use Rattle.eco_frame.proofs.brought.keys_of.Given as goal

abbrev pub invariant-loop-pattern : goal.invariant-loop-pattern
invariant-loop-pattern l = l.keys.items ≡ map pattern_key (take l.pattern-index l.patterns)
