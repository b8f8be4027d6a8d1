use Rattle.eco_grammar.proofs.Reread.{query_reread}
use Rattle.eco_grammar.proofs.laws.canonical_texts_are_read.Goals as goal

pub returns-clause-slots : goal.returns-clause-slots
returns-clause-slots c = query_reread

pub returns-clause-query : goal.returns-clause-query
returns-clause-query c = query_reread c.args.query.now c.is_well_made.ensures
