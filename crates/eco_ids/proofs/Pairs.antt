-- Pairs are the same where both of their parts are.
use Rattle.eco_ids.proofs.Common.{◌≡◌, ◌&&◌, refl, is_eq, Less, Equal, Greater, ordering_then, Entity, Two, id_eq}
use Rattle.eco_ids.specs.Order.{entity_cmp}

pub parts_are_same : (r t s u : Entity) → (is_eq (entity_cmp r s) && is_eq (entity_cmp t u)) ≡ id_eq (Two r t) (Two s u)
parts_are_same r t s u =
    elim (entity_cmp r s) as (λ o. (is_eq o && is_eq (entity_cmp t u)) ≡ is_eq (ordering_then o (entity_cmp t u))) [
      | Less ↦ refl
      | Equal ↦ refl
      | Greater ↦ refl
    ]
