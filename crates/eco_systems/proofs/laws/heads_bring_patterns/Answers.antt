use Rattle.eco_systems.proofs.ClosedLists.{heads_bring}
use Rattle.eco_systems.proofs.laws.heads_bring_patterns.Goals as goal

pub returns : goal.returns
returns c = heads_bring
