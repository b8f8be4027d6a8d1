use Rattle.eco_steps.proofs.Decodes.{script_found, script_in_data, step_found, step_is}
use Rattle.eco_steps.proofs.laws.values_are_found.Goals as goal

pub returns : goal.returns
returns c = record {
  steps = λ edition d s. (step_found edition d s, step_is edition d s);
  scripts = λ d s. (script_in_data d s, script_found d s);
}
