use Rattle.eco_merges.proofs.Common.{◌≡◌, ◌++◌, take, all_commands}
use Rattle.eco_merges.proofs.copying.record_each.Given as goal

abbrev pub invariant-loop-stage : goal.invariant-loop-stage
invariant-loop-stage l = l.copy ≡ l.fn.copy ++ all_commands (take l.stage-index l.stages)
