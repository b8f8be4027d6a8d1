use Rattle.eco_steps.proofs.Common.{map, view, command_in}
use Rattle.eco_steps.proofs.Values.{kept_found, some_found}
use Rattle.eco_steps.proofs.commands.Commands.read_again.Goals as goal

pub invariant_of-result : goal.invariant_of-result
invariant_of-result c = record {
  are_commands = some_found (command_in c.args.edition) (map view c.in_ok-values.values.now) _ c.in_ok-values.ensures c.requires;
}

pub returns : goal.returns
returns c =
    kept_found (command_in c.args.edition) (map view c.in_ok-values.values.now) _ c.in_ok-values.ensures
    (some_found (command_in c.args.edition) (map view c.in_ok-values.values.now) _ c.in_ok-values.ensures c.requires)
