use Rattle.eco_traits.proofs.Common.{common_steps, IfOk-weaker, arith}
use Rattle.eco_traits.proofs.Joined.{either_way}
use Rattle.eco_traits.proofs.target.joined.Goals as goal

pub returns-then-own-as_slice-clause-ids : goal.returns-then-own-as_slice-clause-ids
returns-then-own-as_slice-clause-ids c = IfOk-weaker c.with_all.result _ _ (λ all is. grind (arith, common_steps, either_way)) c.with_all.ensures
