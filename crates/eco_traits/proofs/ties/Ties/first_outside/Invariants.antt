use Rattle.eco_traits.proofs.CleanupCommon.{◌≡◌, take, taken_among, first_outside}
use Rattle.eco_traits.proofs.ties.Ties.first_outside.Given as goal

abbrev pub invariant-loop-entity : goal.invariant-loop-entity
invariant-loop-entity l = l.first ≡ first_outside (taken_among l.self.places.now.slots l.doomed.nodes.keys) (take l.entity-index l.entities)
