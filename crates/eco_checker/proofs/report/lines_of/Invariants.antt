use Rattle.eco_checker.proofs.Common.{map, string_bytes, take, AreFaultLines}
use Rattle.eco_checker.proofs.report.lines_of.Given as goal

-- the lines are those of the head and of the steps so far
abbrev pub invariant-loop-step : goal.invariant-loop-step
invariant-loop-step l =
    AreFaultLines l.faults.has_head (take l.step-index l.faults.steps.items) (map string_bytes l.lines.lines.items)
