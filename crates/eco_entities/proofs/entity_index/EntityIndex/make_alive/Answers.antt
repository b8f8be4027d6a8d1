use Rattle.eco_entities.proofs.Owners.{registry_made_alive}
use Rattle.eco_entities.proofs.entity_index.EntityIndex.make_alive.Goals as goal

pub invariant_of-self : goal.invariant_of-self
invariant_of-self c = registry_made_alive c.self.inside.slots c.make_alive.new.self c.args.entity c.make_alive.result c.self.invariant c.make_alive.ensures
