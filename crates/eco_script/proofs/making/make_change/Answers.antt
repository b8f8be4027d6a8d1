use Rattle.eco_script.proofs.Common.{Ok, Err, refl, err_from_is_err_and}
use Rattle.eco_script.specs.Changes.{named_command}
use Rattle.eco_script.proofs.making.make_change.Goals as goal

pub returns-in_err-named : goal.returns-in_err-named
returns-in_err-named c =
    let p = err_from_is_err_and c.from_residual.result c.from_residual.ensures.1 in
    rw (p.1, p.2) (Err c.in_err-named.field-0.0, c.in_err-named.ensures, (refl, refl))

pub returns : goal.returns
returns c = (Ok (named_command c.in_ok-named.named), c.in_ok-named.ensures, c.apply.ensures)
