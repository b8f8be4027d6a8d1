use Rattle.eco_ids.proofs.Runs.{runs_once}
use Rattle.eco_ids.proofs.laws.runs_have_one_end.Goals as goal

pub returns : goal.returns
returns c = runs_once
