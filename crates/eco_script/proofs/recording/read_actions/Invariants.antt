use Rattle.eco_script.proofs.FormatsCommon.{◌≡◌, ◌≤◌, Ok, length, take, vec_len, vec_capacity, actions_view, ReadsActions}
use Rattle.eco_script.proofs.recording.read_actions.Given as goal

-- the actions so far were read, and there is room for the others
abbrev pub invariant-loop-place : goal.invariant-loop-place
invariant-loop-place l = record {
  read : ReadsActions l.world (take l.place (actions_view l.actions)) (Ok l.read.items);
  count : vec_len l.read ≡ l.place;
  room : length (actions_view l.actions) ≤ vec_capacity l.read;
}
