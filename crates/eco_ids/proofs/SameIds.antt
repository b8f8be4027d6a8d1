-- `==` of entities, ids and types says whether they are the same.
use Rattle.eco_ids.proofs.Common.{◌≡◌, List, ap, arith, pointwise, pointwise_decides, common_steps, Entity, Id, Two, One}
use Rattle.std.specs.Bool.{Decides}
use Rattle.eco_ids.specs.contracts.id.IdPartialEq.TheImpl as id_eq
use Rattle.eco_ids.specs.contracts.entity.EntityPartialEq.TheImpl as entity_eq
use Rattle.eco_ids.proofs.Ascending.{both, first, second}
use Rattle.eco_ids.proofs.States.{same_parts}

pub entity_eq-Decides : (a b : Entity) → Decides ((entity_eq.eq-value).it a b) (a ≡ b)
entity_eq-Decides a b = grind (arith, common_steps, same_parts, first, second, both)

pub id_eq-Decides : (a b : Id) → Decides ((id_eq.eq-value).it a b) (a ≡ b)
id_eq-Decides (One a) (One b) = (λ e. ap One ((entity_eq-Decides a b).0 e), λ e. (entity_eq-Decides a b).1 (let same : a ≡ b = cc in same))
id_eq-Decides (One a) (Two r t) = (λ e. cc, λ e. cc)
id_eq-Decides (Two r t) (One a) = (λ e. cc, λ e. cc)
id_eq-Decides (Two r t) (Two s u) = grind (arith, common_steps, entity_eq-Decides, first, second, both)

pub same_ids-Decides : (xs ys : List Id) → Decides (pointwise (id_eq.eq-value).it xs ys) (xs ≡ ys)
same_ids-Decides = pointwise_decides id_eq-Decides
