use Rattle.eco_entities.specs.Rules.{IsRuled}
use Rattle.eco_entities.proofs.entity_index.EntityIndex.rules.Goals as goal

pub returns : goal.returns
returns c =
    let ruled : IsRuled c.self.inside.slots = record {
      limited = c.rules.ensures.limited;
      within = c.rules.ensures.within;
      generations = c.rules.ensures.generations;
      proper = c.self.invariant.proper;
      unique = c.self.invariant.unique;
    } in
    rw c.self.view_is at ruled
