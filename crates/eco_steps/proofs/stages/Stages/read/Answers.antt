use Rattle.eco_steps.proofs.Common.{view, stage_in}
use Rattle.eco_steps.proofs.Values.{all_kept, read_all, read_none}
use Rattle.eco_steps.proofs.stages.Stages.read.Goals as goal

pub returns-else-are_stages : goal.returns-else-are_stages
returns-else-are_stages c =
    read_none (stage_in c.args.edition) view c.in_ok-values.values.now _ c.are_stages.ensures _ c.in_ok-values.ensures c.if-are_stages.false

pub invariant_of-result : goal.invariant_of-result
invariant_of-result c = record {
  are_stages = all_kept (stage_in c.args.edition) view c.in_ok-values.values.now _ c.are_stages.ensures c.if-are_stages.true;
}

pub returns-then-are_stages : goal.returns-then-are_stages
returns-then-are_stages c =
    read_all (stage_in c.args.edition) view c.in_ok-values.values.now _ c.are_stages.ensures _ c.in_ok-values.ensures c.if-are_stages.true
