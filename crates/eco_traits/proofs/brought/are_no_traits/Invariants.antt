use Rattle.eco_traits.proofs.Common.{take, AreNoTraits}
use Rattle.eco_traits.proofs.brought.are_no_traits.Given as goal

abbrev pub invariant-loop-entity : goal.invariant-loop-entity
invariant-loop-entity l = AreNoTraits l.edition (take l.entity-index l.entities)
