use Rattle.eco_world.proofs.Common.{[], ◌&&◌, refl, sym, ◌∙◌, err_from_is_err_and, entity_eq, id_eq, Loses}
use Rattle.eco_world.proofs.Changes.{nothing_taken}
use Rattle.eco_world.proofs.Losing.{absent_taken}
use Rattle.eco_world.proofs.Steps.{refused}
use Rattle.eco_world.proofs.world.World.remove.Goals as goal

pub returns-in_err-check_actor : goal.returns-in_err-check_actor
returns-in_err-check_actor c =
    let p = err_from_is_err_and c.from_residual.result c.from_residual.ensures.1 in
    rw (p.1, p.2) (refused c.args.self.now c.args.entity _ _ c.in_err-check_actor.ensures.err []
    (Loses c.args.self.now (λ x j. entity_eq x c.args.entity && id_eq j c.args.id)) _)

pub returns-else-has : goal.returns-else-has
returns-else-has c =
    let absent = sym c.has.ensures ∙ c.if-has.false in
    rw (c.in_ok-check_actor.ensures.ok.0, c.in_ok-check_actor.ensures.ok.1) (
      refl,
      sym (absent_taken c.args.self.now c.args.entity c.args.id c.is_lawful.ensures absent ∙ nothing_taken c.args.self.now c.args.entity c.args.id absent),
    )
