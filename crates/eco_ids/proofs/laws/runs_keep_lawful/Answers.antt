use Rattle.eco_ids.proofs.Runs.{runs_lawful, runs_append}
use Rattle.eco_ids.proofs.laws.runs_keep_lawful.Goals as goal

pub returns : goal.returns
returns c = record { keeps = runs_lawful; compose = runs_append }
