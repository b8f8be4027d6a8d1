use Rattle.eco_store.proofs.AnswersCommon.{◌≡◌, ◌++◌, ◌+◌, ◌-◌, ◌≤◌, map, take, length, vec_len, vec_capacity}
use Rattle.eco_store.proofs.standing.add_standing.Given as goal

abbrev pub invariant-loop-entity : goal.invariant-loop-entity
invariant-loop-entity l = record {
  made : l.list.items ≡ l.fn.list.items ++ map (λ e. record { entity = e; place = l.place }) (take l.entity-index l.entities);
  room : vec_len l.list + (length l.entities - l.entity-index) ≤ vec_capacity l.list;
}
