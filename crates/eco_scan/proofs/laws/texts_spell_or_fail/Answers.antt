use Rattle.eco_scan.proofs.Readable.{refs_or_fail, ids_or_fail, queries_or_fail}
use Rattle.eco_scan.proofs.laws.texts_spell_or_fail.Goals as goal

pub returns-clause-reference : goal.returns-clause-reference
returns-clause-reference c = refs_or_fail

pub returns-clause-id : goal.returns-clause-id
returns-clause-id c = ids_or_fail

pub returns-clause-query : goal.returns-clause-query
returns-clause-query c = queries_or_fail
