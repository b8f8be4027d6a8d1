use Rattle.eco_checker.proofs.Common.{map, string_bytes, AddsLines}
use Rattle.eco_checker.proofs.report.Lines.push_stages.Given as goal

-- the lines that were added are those of the step
abbrev pub invariant-loop-stage : goal.invariant-loop-stage
invariant-loop-stage l = AddsLines l.step (map string_bytes l.fn.self.lines.items) (map string_bytes l.self.lines.items)
