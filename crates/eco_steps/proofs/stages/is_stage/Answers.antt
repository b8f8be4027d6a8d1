use Rattle.eco_steps.proofs.Common.{◌∙◌, view, stage_in, commands_view}
use Rattle.eco_steps.proofs.Values.{some_read}
use Rattle.eco_steps.proofs.stages.is_stage.Goals as goal

pub returns : goal.returns
returns c = c.is_some.ensures ∙ some_read commands_view c.read.result (stage_in c.args.edition (view c.args.value.now)) c.read.ensures
