use Rattle.eco_ids.proofs.Lookups.{names_find}
use Rattle.eco_ids.proofs.laws.names_find_who_has_them.Goals as goal

pub returns : goal.returns
returns c = names_find
