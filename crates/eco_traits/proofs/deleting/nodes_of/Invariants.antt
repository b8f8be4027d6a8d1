use Rattle.eco_traits.proofs.CleanupCommon.{◌≡◌, map, take, Root}
use Rattle.eco_traits.proofs.deleting.nodes_of.Given as goal

abbrev pub invariant-loop-entity : goal.invariant-loop-entity
invariant-loop-entity l = l.nodes.items ≡ map Root (take l.entity-index l.entities)
