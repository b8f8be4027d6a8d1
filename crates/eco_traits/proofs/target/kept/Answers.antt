use Rattle.eco_traits.proofs.Common.{common_steps, arith, unwrap_or, take-length, Id, One}
use Rattle.eco_traits.proofs.Joined.{without_each, each_out, all_out, behind_either, fold_more}
use Rattle.eco_traits.proofs.target.kept.Goals.{then-is_replaced+in_ok-without, else-is_replaced}
use Rattle.eco_traits.proofs.target.kept.Goals as goal

-- what a read past the end of the ids would be
abbrev least_id : Id
least_id = One (record { index = 0; generation = 0 })

pub loop-id-preserved : goal.loop-id-preserved
loop-id-preserved g c = grind (arith, common_steps, unwrap_or, fold_more, without_each, then-is_replaced+in_ok-without, behind_either, else-is_replaced)

pub returns-clause-kept : goal.returns-clause-kept
returns-clause-kept g c = grind (arith, common_steps, without_each, take-length, each_out, all_out)
