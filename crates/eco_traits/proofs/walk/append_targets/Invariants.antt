use Rattle.eco_traits.proofs.Common.{◌≡◌, ◌||◌, take, Entity, Two, entity_cmp, has_item, id_cmp}
use Rattle.eco_traits.proofs.walk.append_targets.Given as goal

abbrev pub invariant-loop-id : goal.invariant-loop-id
invariant-loop-id l =
    (b : Entity) → has_item entity_cmp l.found.items b ≡
    (has_item entity_cmp l.initial.found.items b || has_item id_cmp (take l.id-index l.ids) (Two l.relationship b))
