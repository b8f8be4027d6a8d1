use Rattle.eco_frame.proofs.BatchesCommon.{◌≡◌, take}
use Rattle.eco_frame.proofs.outline.Outlines.is.Given as goal

abbrev pub invariant-loop-at : goal.invariant-loop-at
invariant-loop-at l = take l.at l.self ≡ take l.at l.other
