use Rattle.eco_script.proofs.Common.{◌≡◌, ◌++◌, flat_map, string_bytes, outcome_line}
use Rattle.eco_script.proofs.reply.push_outcome_lines.Given as goal

-- with the lines of the commands that are left it is all lines
abbrev pub invariant-loop-outcome : goal.invariant-loop-outcome
invariant-loop-outcome l =
    string_bytes l.text ++ flat_map outcome_line l.outcome-iterator ≡ string_bytes l.fn.text ++ flat_map outcome_line l.report
