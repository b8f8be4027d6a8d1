use Rattle.eco_ids.proofs.Meaning.{reaches_transitive}
use Rattle.eco_ids.proofs.laws.walks_compose.Goals as goal

pub returns : goal.returns
returns c = reaches_transitive
