use Rattle.eco_steps.proofs.Common.{view, action_in}
use Rattle.eco_steps.proofs.Values.{all_kept, read_all, read_none}
use Rattle.eco_steps.proofs.actions.Actions.read.Goals as goal

pub returns-else-are_actions : goal.returns-else-are_actions
returns-else-are_actions c =
    read_none (action_in c.args.edition) view c.in_ok-values.values.now _ c.are_actions.ensures _ c.in_ok-values.ensures c.if-are_actions.false

pub invariant_of-result : goal.invariant_of-result
invariant_of-result c = record {
  are_actions = all_kept (action_in c.args.edition) view c.in_ok-values.values.now _ c.are_actions.ensures c.if-are_actions.true;
}

pub returns-then-are_actions : goal.returns-then-are_actions
returns-then-are_actions c =
    read_all (action_in c.args.edition) view c.in_ok-values.values.now _ c.are_actions.ensures _ c.in_ok-values.ensures c.if-are_actions.true
