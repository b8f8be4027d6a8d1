use Rattle.eco_traits.proofs.CleanupCommon.{◌≡◌, take, taken_among}
use Rattle.eco_traits.proofs.ties.Ties.dead.Given as goal

abbrev pub invariant-loop-node : goal.invariant-loop-node
invariant-loop-node l = l.dead.items ≡ taken_among l.self.places.now.slots (take l.node-index l.node-items)
