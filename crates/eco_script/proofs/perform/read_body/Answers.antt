use Rattle.eco_script.proofs.Common.{Ok, Err, refl, err_from_is_err_and}
use Rattle.eco_script.proofs.Declared.{body_of}
use Rattle.eco_script.proofs.perform.read_body.Goals as goal

pub returns-in_err-actions : goal.returns-in_err-actions
returns-in_err-actions c =
    let p = err_from_is_err_and c.from_residual.result c.from_residual.ensures.1 in
    rw (p.1, p.2) (λ plain. (Err c.in_err-actions.field-0.0, c.in_err-actions.ensures.read plain, refl))

pub returns : goal.returns
returns c = λ plain. (
  Ok c.in_ok-actions.actions.items,
  c.in_ok-actions.ensures.read refl,
  body_of c.args.query.now c.in_ok-actions.actions.items c.new.result plain c.new.ensures.refused c.new.ensures.actions c.new.ensures.writes
      c.new.ensures.kills,
)
