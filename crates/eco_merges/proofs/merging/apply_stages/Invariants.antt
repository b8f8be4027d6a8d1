use Rattle.eco_merges.proofs.Common.{take, AreDone, all_commands}
use Rattle.eco_merges.proofs.merging.apply_stages.Given as goal

abbrev pub invariant-loop-stage : goal.invariant-loop-stage
invariant-loop-stage g l = record {
  are_done : AreDone (g.W.MergeTarget.world l.initial.world) (all_commands (take l.stage-index l.stages)) l.initial.outcomes l.outcomes
      (g.W.MergeTarget.world l.world);
}
