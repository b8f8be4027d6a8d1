use Rattle.eco_steps.proofs.Common.{map, None, Some, option_map, ap, ◌∙◌, view, command_in, command_view}
use Rattle.eco_steps.proofs.Values.{kept_get}
use Rattle.eco_steps.proofs.commands.Commands.get.Goals as goal

pub returns : goal.returns
returns c =
    let self = c.args.self.now in
    c.read.ensures ∙ kept_get (command_in self.edition) (map view self.values.now) c.args.place (Some (view c.in_ok-value.value.now)) self.are_commands
    c.in_ok-value.ensures

pub returns-in_err-value : goal.returns-in_err-value
returns-in_err-value c =
    let self = c.args.self.now in
    ap (option_map command_view) c.from_residual.ensures
    ∙ kept_get (command_in self.edition) (map view self.values.now) c.args.place None self.are_commands c.in_err-value.ensures
