use Rattle.eco_steps.proofs.Common.{map, None, Some, option_map, ap, ◌∙◌, view, action_in, action_view}
use Rattle.eco_steps.proofs.Values.{kept_get}
use Rattle.eco_steps.proofs.actions.Actions.get.Goals as goal

pub returns : goal.returns
returns c =
    let self = c.args.self.now in
    c.read.ensures ∙ kept_get (action_in self.edition) (map view self.values.now) c.args.place (Some (view c.in_ok-value.value.now)) self.are_actions
    c.in_ok-value.ensures

pub returns-in_err-value : goal.returns-in_err-value
returns-in_err-value c =
    let self = c.args.self.now in
    ap (option_map action_view) c.from_residual.ensures
    ∙ kept_get (action_in self.edition) (map view self.values.now) c.args.place None self.are_actions c.in_err-value.ensures
