use Rattle.eco_script.proofs.Runs.{ran_some}
use Rattle.eco_script.proofs.run.run_script.Goals as goal

pub returns-clause-ran : goal.returns-clause-ran
returns-clause-ran g c = λ is. ran_some c.args.workers _ _ _ _ (c.run_world.ensures.ran is)
