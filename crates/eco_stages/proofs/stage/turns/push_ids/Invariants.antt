use Rattle.eco_stages.proofs.Common.{◌≡◌, ◌+◌, ◌++◌, List, length, vec_capacity, vec_len}
use Rattle.eco_ids.specs.declared.id.Id.{Id}
use Rattle.eco_stages.proofs.stage.turns.push_ids.Given as goal

abbrev pub invariant-loop-command : goal.invariant-loop-command
invariant-loop-command l = record {
  pushed : (more : List Id) × (l.ids.items ≡ l.fn.ids.items ++ more) × (length more ≡ l.command-index);
  count : vec_len l.ids ≡ vec_len l.fn.ids + l.command-index;
  room : vec_capacity l.ids ≡ vec_capacity l.fn.ids;
}
