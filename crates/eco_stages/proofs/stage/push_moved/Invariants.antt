use Rattle.eco_stages.proofs.Common.{◌≡◌, ◌+◌, ◌++◌, take, vec_capacity, vec_len}
use Rattle.std.specs.Prelude.{map}
use Rattle.eco_stages.specs.Recorded.{moved_by}
use Rattle.eco_stages.proofs.stage.push_moved.Given as goal

abbrev pub invariant-loop-command : goal.invariant-loop-command
invariant-loop-command l = record {
  pushed : l.list.items ≡ l.fn.list.items ++ map (moved_by l.own) (take l.command-index l.commands);
  count : vec_len l.list ≡ vec_len l.fn.list + l.command-index;
  room : vec_capacity l.list ≡ vec_capacity l.fn.list;
}
