use Rattle.eco_store.proofs.AnswersCommon.{◌≡◌, ◌-◌, ◌≤◌, ◌++◌, drop, standing_from}
use Rattle.eco_store.proofs.walking.numbered.Given as goal

abbrev pub decreases-loop-index : goal.decreases-loop-index
decreases-loop-index l = l.high - l.index

abbrev pub invariant-loop-index : goal.invariant-loop-index
invariant-loop-index l =
    (l.index ≤ l.high)
    × (l.list.items ++ standing_from l.numbers l.index (drop l.index l.entities.indices) ≡ standing_from l.numbers 0 l.entities.indices)
