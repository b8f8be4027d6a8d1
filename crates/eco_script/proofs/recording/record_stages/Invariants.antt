use Rattle.eco_script.proofs.FormatsCommon.{◌≡◌, ◌≤◌, Ok, length, take, flat_map, vec_len, vec_capacity, stages_view, all_commands, ReadsCommands}
use Rattle.eco_script.proofs.recording.record_stages.Given as goal

-- the stages so far were read, and there is room for the others
abbrev pub invariant-loop-place : goal.invariant-loop-place
invariant-loop-place l = record {
  read : ReadsCommands l.world (flat_map (λ s. s) (take l.place (stages_view l.stages))) (Ok (all_commands l.recorded.items));
  count : vec_len l.recorded ≡ l.place;
  room : length (stages_view l.stages) ≤ vec_capacity l.recorded;
}
