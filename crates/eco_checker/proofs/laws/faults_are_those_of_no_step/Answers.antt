use Rattle.eco_checker.proofs.Listed.{are_those_of_no_step}
use Rattle.eco_checker.proofs.laws.faults_are_those_of_no_step.Goals as goal

pub returns : goal.returns
returns c = are_those_of_no_step c.values_are_found.ensures.steps
