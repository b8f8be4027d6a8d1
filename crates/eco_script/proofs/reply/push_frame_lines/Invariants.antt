use Rattle.eco_script.proofs.Common.{◌≡◌, ◌++◌, length, take, string_bytes, joined, command_lines}
use Rattle.eco_script.proofs.reply.push_frame_lines.Given as goal

-- the lines of the batches so far, whose commands are counted
abbrev pub invariant-loop-report : goal.invariant-loop-report
invariant-loop-report l = record {
  lines : string_bytes l.text ≡ string_bytes l.fn.text ++ command_lines 0 (joined (take l.report-index l.reports));
  count : l.number ≡ length (joined (take l.report-index l.reports));
}
