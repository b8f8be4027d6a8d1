use Rattle.eco_merges.proofs.Merges.{both_done, grown, none_done, one_done}
use Rattle.eco_merges.proofs.laws.commands_are_done_in_turn.Goals as goal

pub returns-clause-none : goal.returns-clause-none
returns-clause-none c = none_done

pub returns-clause-one : goal.returns-clause-one
returns-clause-one c = one_done

pub returns-clause-both : goal.returns-clause-both
returns-clause-both c = both_done c.runs_keep_lawful.ensures.compose

pub returns-clause-counted : goal.returns-clause-counted
returns-clause-counted c = grown
