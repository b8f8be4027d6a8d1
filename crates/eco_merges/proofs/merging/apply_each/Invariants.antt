use Rattle.eco_merges.proofs.Common.{take, commands_of, AreDone}
use Rattle.eco_merges.proofs.merging.apply_each.Given as goal

abbrev pub invariant-loop-command : goal.invariant-loop-command
invariant-loop-command g l = record {
  are_done : AreDone (g.W.MergeTarget.world l.initial.world) (commands_of l.kept (take l.command-index l.commands)) l.initial.outcomes l.outcomes
      (g.W.MergeTarget.world l.world);
}
