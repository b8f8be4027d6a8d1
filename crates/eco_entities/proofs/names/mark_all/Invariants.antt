use Rattle.eco_entities.proofs.Common.{◌≡◌, ℕ, List, Some, Entity, KeepsAll, get_by_text}
use Rattle.eco_entities.proofs.Listings.{IsLeftOrMarked}
use Rattle.eco_entities.proofs.names.mark_all.Given as goal

abbrev pub invariant-loop-name : goal.invariant-loop-name
invariant-loop-name l =
    (goal.iterator-loop-name).can_next l.name-iterator ×
    (goal.iterator-loop-name).is_finite l.name-iterator ×
    KeepsAll l.fn.table l.table ×
    ((name : List ℕ) (e : Entity) → get_by_text l.spilled name ≡ Some e → IsLeftOrMarked l.name-iterator l.table name)
