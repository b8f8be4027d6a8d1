use Rattle.eco_entities.proofs.Owners.{registry_admitted}
use Rattle.eco_entities.proofs.entity_index.EntityIndex.admit.Goals as goal

pub invariant_of-self : goal.invariant_of-self
invariant_of-self c = registry_admitted c.self.inside.slots c.admit.new.self c.args.count _ c.admit.result c.self.invariant c.admit.ensures
