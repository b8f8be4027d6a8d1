use Rattle.eco_systems.proofs.FreshDraws.{ascending_are_fresh}
use Rattle.eco_systems.proofs.laws.ascending_draws_are_fresh.Goals as goal

pub returns : goal.returns
returns c = ascending_are_fresh
