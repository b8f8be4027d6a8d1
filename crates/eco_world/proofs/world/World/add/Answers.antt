use Rattle.eco_world.proofs.Common.{◌∷◌, [], not, err_from_is_err_and, DeadId, Answers, Extends, unchanged, has, names_living}
use Rattle.std.specs.Bool.{MatchBool}
use Rattle.eco_world.proofs.Steps.{refused}
use Rattle.eco_world.proofs.world.World.add.Goals as goal

pub returns-in_err-check_holder : goal.returns-in_err-check_holder
returns-in_err-check_holder c =
    let w = c.args.self.now in
    let e = c.args.entity in
    let p = err_from_is_err_and c.from_residual.result c.from_residual.ensures.1 in
    rw (p.1, p.2)
    (refused w e _ _ c.in_err-check_holder.ensures.err ((not (names_living w c.args.id), DeadId) ∷ [])
    (λ r new. MatchBool (has w e c.args.id) (Answers tt w r new) (Extends w e c.args.id unchanged r new)) _)
