use Rattle.std.proofs.Common.{Err, option_copied, refl, subst}
use Rattle.std.proofs.lemmas.Result.{err_from_is_err_and}
use Rattle.eco_ids.specs.Births.{MakesComponent, may_make_component}
use Rattle.eco_ids.specs.Outcome.{Meets}
use Rattle.eco_frame.proofs.typed_id.TypedId.create.Goals as goal

pub returns-in_err-entity : goal.returns-in_err-entity
returns-in_err-entity g c =
    let p = err_from_is_err_and c.from_residual.result c.from_residual.ensures.1 in
    let w = c.args.world.now in
    let name = option_copied c.args.name in
    let why = c.in_err-entity.field-0.0 in
    rw (p.1, p.2) (
      Err why,
      subst (λ n. Meets (MakesComponent w name n) (may_make_component w name) w (Err why) c.component.new.self) c.ARITY.ensures c.in_err-entity.ensures,
      refl,
    )
