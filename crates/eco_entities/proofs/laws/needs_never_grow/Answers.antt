use Rattle.eco_entities.proofs.Needs.{never_grow}
use Rattle.eco_entities.proofs.laws.needs_never_grow.Goals as goal

pub returns : goal.returns
returns c = never_grow
