use Rattle.eco_entities.proofs.Common.{◌≡◌, ◌+◌, ◌-◌, ◌≤◌, ◌++◌, replicate, vec_len, vec_capacity}
use Rattle.eco_entities.proofs.slot_list.push_copies.Given as goal

abbrev pub invariant-loop : goal.invariant-loop
invariant-loop l = record {
  pushed : l.slots.items ≡ l.fn.slots.items ++ replicate l.counter l.slot;
  room : vec_len l.slots + (l.count - l.counter) ≤ vec_capacity l.slots;
}
