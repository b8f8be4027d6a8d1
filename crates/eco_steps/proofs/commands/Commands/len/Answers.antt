use Rattle.eco_steps.proofs.Common.{map, sym, ◌∙◌, length-map, view, command_in}
use Rattle.eco_steps.proofs.Values.{kept_length}
use Rattle.eco_steps.proofs.commands.Commands.len.Goals as goal

pub returns : goal.returns
returns c =
    sym (kept_length (command_in c.args.self.now.edition) (map view c.args.self.now.values.now) c.args.self.now.are_commands ∙ length-map _ view)
