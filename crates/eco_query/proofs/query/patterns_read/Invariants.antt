use Rattle.eco_query.proofs.Common.{◌≡◌, take, flat_map, term_view, patterns_of}
use Rattle.eco_query.proofs.query.patterns_read.Given as goal

abbrev pub invariant-loop-slot : goal.invariant-loop-slot
invariant-loop-slot l = l.patterns.items ≡ flat_map (λ s. patterns_of (term_view s.term)) (take l.slot-index l.slots)
