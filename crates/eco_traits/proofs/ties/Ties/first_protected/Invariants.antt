use Rattle.eco_traits.proofs.CleanupCommon.{◌≡◌, take, taken_among, first_protected, world_of}
use Rattle.eco_traits.proofs.ties.Ties.first_protected.Given as goal

abbrev pub invariant-loop-id : goal.invariant-loop-id
invariant-loop-id l =
    l.first ≡ first_protected (world_of l.self.places.now.entities) (taken_among l.self.places.now.slots l.doomed.nodes.keys)
    (take l.id-index l.ids)
