use Rattle.eco_steps.proofs.Common.{map, sym, ◌∙◌, length-map, view, action_in}
use Rattle.eco_steps.proofs.Values.{kept_length}
use Rattle.eco_steps.proofs.actions.Actions.len.Goals as goal

pub returns : goal.returns
returns c =
    sym (kept_length (action_in c.args.self.now.edition) (map view c.args.self.now.values.now) c.args.self.now.are_actions ∙ length-map _ view)
