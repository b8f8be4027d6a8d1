use Rattle.eco_entities.proofs.Common.{◌≡◌, true, is_alive}
use Rattle.eco_entities.proofs.Owners.{own-placed}
use Rattle.eco_entities.proofs.Registers.{registry_same}
use Rattle.eco_entities.proofs.entity_index.EntityIndex.set_place.Goals as goal

pub invariant_of-self : goal.invariant_of-self
invariant_of-self c =
    let alive : is_alive c.self.inside.slots c.args.entity ≡ true = rw c.self.view_is c.requires.alive in
    rw c.set_place.ensures
    (registry_same c.self.invariant (λ name e own listed. listed) (own-placed c.self.inside.slots c.args.entity c.args.place alive))
