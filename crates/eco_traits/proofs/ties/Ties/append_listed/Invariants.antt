use Rattle.eco_traits.proofs.CleanupCommon.{◌≡◌, ◌++◌, flat_map, take, nodes_at, world_of}
use Rattle.eco_traits.proofs.ties.Ties.append_listed.Given as goal

abbrev pub invariant-loop-slot : goal.invariant-loop-slot
invariant-loop-slot l =
    l.found.items ≡ l.initial.found.items
    ++ flat_map (nodes_at (world_of l.self.places.now.entities) l.self.places.now.slots l.member) (take l.slot-index l.slot-items)
