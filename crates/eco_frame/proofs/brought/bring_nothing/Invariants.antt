use Rattle.eco_frame.proofs.BatchesCommon.{take, AllByRecursion, BringsNothing}
use Rattle.eco_frame.proofs.brought.bring_nothing.Given as goal

abbrev pub invariant-loop-pattern : goal.invariant-loop-pattern
invariant-loop-pattern g l = AllByRecursion (BringsNothing (g.H.Holdings.world l.holdings)) (take l.pattern-index l.patterns)
