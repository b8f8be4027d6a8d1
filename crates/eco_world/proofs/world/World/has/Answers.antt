use Rattle.eco_world.proofs.Common.{◌∙◌}
use Rattle.eco_world.proofs.Held.{has_listed}
use Rattle.eco_world.proofs.world.World.has.Goals as goal

pub returns-in-Some : goal.returns-in-Some
returns-in-Some c = c.has.ensures.is ∙ has_listed c.args.self.now c.args.entity c.args.id c.in-Some.ids.now c.in-Some.ensures
