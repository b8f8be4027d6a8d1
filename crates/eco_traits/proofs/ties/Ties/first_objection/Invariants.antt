use Rattle.eco_traits.proofs.CleanupCommon.{◌≡◌, fold, take, None, former, objection_cmp, objection_of, world_of}
use Rattle.eco_traits.proofs.ties.Ties.first_objection.Given as goal

abbrev pub invariant-loop-node : goal.invariant-loop-node
invariant-loop-node l =
    l.first ≡ fold
    (λ first node. former objection_cmp first (objection_of (world_of l.self.places.now.entities) l.self.places.now.slots l.doomed.nodes.keys node))
    None (take l.node-index l.node-items)
