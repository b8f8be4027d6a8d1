use Rattle.eco_world.proofs.Common.{◌∙◌}
use Rattle.eco_world.proofs.Asking.{used_is}
use Rattle.eco_world.proofs.world.holdings.WorldHoldings.is_used.Goals as goal

pub returns : goal.returns
returns c = c.is_held.ensures ∙ used_is c.args.self.now c.args.relationship
