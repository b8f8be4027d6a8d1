use Rattle.eco_entities.proofs.Common.{refl}
use Rattle.eco_entities.proofs.Registers.{registry_same}
use Rattle.eco_entities.proofs.entity_index.EntityIndex.try_copy.Goals as goal

pub invariant_of-result : goal.invariant_of-result
invariant_of-result c =
    rw c.in_ok-slots.ensures
    (registry_same c.self.invariant (λ name e own listed. c.in_ok-names.ensures name e listed) (record { all = λ e. refl }))
