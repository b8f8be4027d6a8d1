use Rattle.eco_frame.proofs.BatchesCommon.{◌≡◌, ◌||◌, take, list_any, Pattern, pattern_overlaps, overlaps}
use Rattle.eco_frame.proofs.written.Written.add_all.Given as goal

abbrev pub invariant-loop-pattern : goal.invariant-loop-pattern
invariant-loop-pattern l = (read : Pattern) → overlaps l.self read
    ≡ (overlaps l.initial.self read || list_any (λ p. pattern_overlaps p read) (take l.pattern-index l.patterns))
