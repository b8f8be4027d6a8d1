use Rattle.eco_entities.proofs.Common.{◌≡◌, ◌∙◌, ap, None, Some, next_entity}
use Rattle.eco_entities.proofs.Owners.{own-new}
use Rattle.eco_entities.proofs.Registers.{registry_nameless}
use Rattle.eco_entities.proofs.entity_index.EntityIndex.settle_nameless.Goals as goal

pub invariant_of-self-2 : goal.invariant_of-self-2
invariant_of-self-2 c =
    let e = c.args.entity in
    let w = c.self.inside.slots in
    let next : next_entity w ≡ Some e = ap next_entity c.self.view_is ∙ c.requires in
    rw c.in_ok-settle_nameless.ensures.ok
    (registry_nameless e c.self.invariant (own-new w e None c.args.arity next))
