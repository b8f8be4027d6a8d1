use Rattle.eco_steps.proofs.Common.{◌∙◌, view, command_in, command_view}
use Rattle.eco_steps.proofs.Values.{some_read}
use Rattle.eco_steps.proofs.commands.is_command.Goals as goal

pub returns : goal.returns
returns c = c.is_some.ensures ∙ some_read command_view c.read.result (command_in c.args.edition (view c.args.value.now)) c.read.ensures
