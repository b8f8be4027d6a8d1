use Rattle.eco_entities.proofs.names.Names.insert_anew.Goals as goal

pub returns-in_err-widen-clause-others : goal.returns-in_err-widen-clause-others
returns-in_err-widen-clause-others c = λ other e apart. c.in_err-widen.ensures.same other e

pub returns-clause-others : goal.returns-clause-others
returns-clause-others c = λ other e apart h. c.insert_in_room.ensures.others other e apart (c.in_ok-widen.ensures.same other e h)
