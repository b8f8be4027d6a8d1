use Rattle.eco_script.proofs.Common.{◌≡◌, ◌+◌, ◌++◌, length, string_bytes, command_lines}
use Rattle.eco_script.proofs.reply.push_command_lines.Given as goal

-- with the lines of the commands that are left it is all lines, and they are numbered on
abbrev pub invariant-loop-outcome : goal.invariant-loop-outcome
invariant-loop-outcome l = record {
  lines : string_bytes l.text ++ command_lines l.number l.outcome-iterator ≡ string_bytes l.fn.text ++ command_lines l.fn.first l.report;
  count : l.number + length l.outcome-iterator ≡ l.fn.first + length l.report;
}
