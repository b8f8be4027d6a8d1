use Rattle.eco_stages.proofs.InTurn.{in_turn-append, in_turn_counted, one_more_in_turn}
use Rattle.eco_stages.proofs.laws.sets_come_in_turn.Goals as goal

pub returns-clause-counted : goal.returns-clause-counted
returns-clause-counted c = in_turn_counted

pub returns-clause-on : goal.returns-clause-on
returns-clause-on c = in_turn-append

pub returns-clause-more : goal.returns-clause-more
returns-clause-more c = one_more_in_turn
