use Rattle.eco_store.proofs.AnswersCommon.{◌≡◌, ◌+◌, ◌-◌, ◌≤◌, ◌++◌, drop, vec_capacity, vec_len, standing_from}
use Rattle.eco_store.proofs.walking.add_numbered.Given as goal

abbrev pub invariant-loop-index : goal.invariant-loop-index
invariant-loop-index l =
    (l.list.items ++ standing_from l.numbers l.index (drop l.index l.homes.indices)
    ≡ l.fn.list.items ++ standing_from l.numbers l.first (drop l.first l.homes.indices))
    × (vec_len l.list + (l.end - l.index) ≤ vec_capacity l.list)
