use Rattle.eco_script.proofs.Common.{Ok, Err, refl, err_from_is_err_and}
use Rattle.eco_script.proofs.perform.change.Goals as goal

pub returns-in_err-make_change : goal.returns-in_err-make_change
returns-in_err-make_change c =
    let p = err_from_is_err_and c.from_residual.result c.from_residual.ensures.1 in
    rw (p.1, p.2) (Err c.in_err-make_change.field-0.0, c.in_err-make_change.ensures, refl)

pub returns : goal.returns
returns c = (Ok tt, c.in_ok-make_change.ensures, refl)
