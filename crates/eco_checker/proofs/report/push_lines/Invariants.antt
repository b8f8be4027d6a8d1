use Rattle.eco_checker.proofs.Common.{◌≡◌, ◌++◌, take, flat_map, string_bytes}
use Rattle.eco_checker.proofs.report.push_lines.Given as goal

-- the lines so far
abbrev pub invariant-loop-line : goal.invariant-loop-line
invariant-loop-line l =
    string_bytes l.text ≡ string_bytes l.fn.text ++ flat_map (λ s. string_bytes s) (take l.line-index l.lines)
