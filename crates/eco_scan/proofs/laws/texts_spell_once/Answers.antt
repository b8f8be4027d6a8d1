use Rattle.eco_scan.proofs.Spelled.{ref_once, id_once, query_once}
use Rattle.eco_scan.proofs.laws.texts_spell_once.Goals as goal

pub returns-clause-reference : goal.returns-clause-reference
returns-clause-reference c = ref_once

pub returns-clause-id : goal.returns-clause-id
returns-clause-id c = id_once

pub returns-clause-query : goal.returns-clause-query
returns-clause-query c = query_once
