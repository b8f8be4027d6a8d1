use Rattle.eco_frame.proofs.BatchesCommon.{take, AllZip, IsKnown}
use Rattle.eco_frame.proofs.outline.Outlines.are_known.Given as goal

abbrev pub invariant-loop-at : goal.invariant-loop-at
invariant-loop-at g l = AllZip (IsKnown (g.H.Holdings.world l.holdings)) (take l.at l.systems) (take l.at l.self)
