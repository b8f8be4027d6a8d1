use Rattle.eco_traits.proofs.Common.{err_from_is_err_and}
use Rattle.eco_traits.proofs.target.open_target.Goals as goal

pub returns-in_err-ids-clause-target : goal.returns-in_err-ids-clause-target
returns-in_err-ids-clause-target g c = let p = err_from_is_err_and c.from_residual.result c.from_residual.ensures.1 in rw (p.1, p.2) c.in_err-ids.ensures
