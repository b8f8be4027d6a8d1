use Rattle.eco_traits.proofs.CleanupCommon.{◌≡◌, map, take, Falling}
use Rattle.eco_traits.proofs.deleting.falling.Given as goal

abbrev pub invariant-loop-slot : goal.invariant-loop-slot
invariant-loop-slot l = l.nodes.items ≡ map Falling (take l.slot-index l.slots)
