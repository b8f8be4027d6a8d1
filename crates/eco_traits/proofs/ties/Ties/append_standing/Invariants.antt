use Rattle.eco_traits.proofs.CleanupCommon.{◌≡◌, ◌||◌, take, list_any, is_one_of, touches, world_of, Node}
use Rattle.eco_traits.proofs.ties.Ties.append_standing.Given as goal

abbrev pub invariant-loop-entity : goal.invariant-loop-entity
invariant-loop-entity l =
    (b : Node) → is_one_of l.found.items b
    ≡ (is_one_of l.initial.found.items b
    || list_any (λ e. touches (world_of l.self.places.now.entities) l.self.places.now.slots e b) (take l.entity-index l.entity-items))
