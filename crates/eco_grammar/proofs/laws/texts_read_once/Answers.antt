use Rattle.eco_grammar.proofs.Common.{SpellsId, SpellsQuery, SpellsRef, entity_of_placed, id_of, query_of}
use Rattle.eco_grammar.proofs.Spelled.{reads_once}
use Rattle.eco_grammar.proofs.laws.texts_read_once.Goals as goal

pub returns-clause-reference : goal.returns-clause-reference
returns-clause-reference c entity_named = reads_once SpellsRef (entity_of_placed entity_named) c.texts_spell_once.ensures.reference

pub returns-clause-id : goal.returns-clause-id
returns-clause-id c entity_named = reads_once SpellsId (id_of entity_named) c.texts_spell_once.ensures.id

pub returns-clause-query : goal.returns-clause-query
returns-clause-query c entity_named = reads_once SpellsQuery (query_of entity_named) c.texts_spell_once.ensures.query
