use Rattle.eco_world.proofs.Common.{◌∙◌}
use Rattle.eco_world.proofs.Held.{listed}
use Rattle.eco_world.proofs.world.World.ids_of.Goals as goal

pub returns-in-Some-clause-ids : goal.returns-in-Some-clause-ids
returns-in-Some-clause-ids c = c.as_slice.ensures.ids ∙ listed c.args.self.now c.args.entity c.in-Some.ids.now c.in-Some.ensures
