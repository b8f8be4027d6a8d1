use Rattle.eco_grammar.proofs.Common.{SpellsId, SpellsQuery, SpellsRef, entity_of_placed, id_of, query_of}
use Rattle.eco_grammar.proofs.Spelled.{reads_all}
use Rattle.eco_grammar.proofs.laws.texts_are_read.Goals as goal

pub returns-clause-reference : goal.returns-clause-reference
returns-clause-reference c entity_named = reads_all SpellsRef (entity_of_placed entity_named) c.texts_spell_or_fail.ensures.reference

pub returns-clause-id : goal.returns-clause-id
returns-clause-id c entity_named = reads_all SpellsId (id_of entity_named) c.texts_spell_or_fail.ensures.id

pub returns-clause-query : goal.returns-clause-query
returns-clause-query c entity_named = reads_all SpellsQuery (query_of entity_named) c.texts_spell_or_fail.ensures.query
