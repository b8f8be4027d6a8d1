use Rattle.eco_steps.proofs.Decodes.{one_script}
use Rattle.eco_steps.proofs.laws.bytes_are_one_script.Goals as goal

pub returns : goal.returns
returns c = one_script
