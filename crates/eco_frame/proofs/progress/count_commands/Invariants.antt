use Rattle.eco_frame.proofs.Common.{◌≡◌, length, take, all_commands}
use Rattle.eco_frame.proofs.progress.count_commands.Given as goal

-- those of the stages so far
abbrev pub invariant-loop-stage : goal.invariant-loop-stage
invariant-loop-stage l = l.count ≡ length (all_commands (take l.stage-index l.stages))
