use Rattle.eco_steps.proofs.Common.{◌∙◌, view, action_in, action_view}
use Rattle.eco_steps.proofs.Values.{some_read}
use Rattle.eco_steps.proofs.actions.is_action.Goals as goal

pub returns : goal.returns
returns c = c.is_some.ensures ∙ some_read action_view c.read.result (action_in c.args.edition (view c.args.value.now)) c.read.ensures
