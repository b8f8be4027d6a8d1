use Rattle.eco_steps.proofs.Common.{view, command_in}
use Rattle.eco_steps.proofs.Values.{all_kept, read_all, read_none}
use Rattle.eco_steps.proofs.commands.Commands.read.Goals as goal

pub returns-else-are_commands : goal.returns-else-are_commands
returns-else-are_commands c =
    read_none (command_in c.args.edition) view c.in_ok-values.values.now _ c.are_commands.ensures _ c.in_ok-values.ensures c.if-are_commands.false

pub invariant_of-result : goal.invariant_of-result
invariant_of-result c = record {
  are_commands = all_kept (command_in c.args.edition) view c.in_ok-values.values.now _ c.are_commands.ensures c.if-are_commands.true;
}

pub returns-then-are_commands : goal.returns-then-are_commands
returns-then-are_commands c =
    read_all (command_in c.args.edition) view c.in_ok-values.values.now _ c.are_commands.ensures _ c.in_ok-values.ensures c.if-are_commands.true
