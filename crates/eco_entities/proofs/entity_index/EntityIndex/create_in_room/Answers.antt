use Rattle.eco_entities.proofs.Common.{Some, None, with_new, newcomer, placed}
use Rattle.eco_entities.proofs.Kept.{record-new}
use Rattle.eco_entities.proofs.Owners.{names_follow}
use Rattle.eco_entities.proofs.Registers.{registry_nameless}
use Rattle.eco_entities.proofs.entity_index.EntityIndex.create_in_room.Goals as goal

pub invariant_of-self-2 : goal.invariant_of-self-2
invariant_of-self-2 c =
    let w = c.self.inside.slots in
    let e = c.in_ok-entity.entity in
    let r = placed c.args.place (newcomer None c.args.arity) in
    rw c.in_ok-entity.ensures.some
    (registry_nameless e c.self.invariant
    (names_follow w (with_new w e r) e (Some r) (record-new w e r c.in_ok-entity.ensures.next)))
