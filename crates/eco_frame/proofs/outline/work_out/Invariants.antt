use Rattle.eco_frame.proofs.BatchesCommon.{take, AllZip, IsOutline}
use Rattle.eco_frame.proofs.outline.work_out.Given as goal

abbrev pub invariant-loop-system : goal.invariant-loop-system
invariant-loop-system g l = AllZip (IsOutline (g.H.Holdings.world l.holdings)) (take l.system-index l.systems) l.outlines
