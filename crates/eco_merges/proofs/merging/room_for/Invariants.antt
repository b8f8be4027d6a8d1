use Rattle.eco_merges.proofs.Common.{◌≤◌, ◌<◌, ◌-◌, ◌^◌, length, take, all_commands}
use Rattle.eco_merges.proofs.merging.room_for.Given as goal

abbrev pub invariant-loop-stage : goal.invariant-loop-stage
invariant-loop-stage l = record {
  most : l.count ≤ length (all_commands (take l.stage-index l.stages));
  least : l.count < 2 ^ 64 - 1 → length (all_commands (take l.stage-index l.stages)) ≤ l.count;
}
