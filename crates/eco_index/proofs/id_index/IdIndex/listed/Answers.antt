use Rattle.eco_index.proofs.Listings.{distinct_none}
use Rattle.eco_index.proofs.id_index.IdIndex.listed.Goals as goal

pub returns-in-None-clause-distinct : goal.returns-in-None-clause-distinct
returns-in-None-clause-distinct c = distinct_none
