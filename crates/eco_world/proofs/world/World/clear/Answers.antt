use Rattle.eco_world.proofs.Common.{true≢false, [], Some, Ok, refl, sym, ap, ◌∙◌, subst, err_from_is_err_and, IsLawful, entity_eq, Loses, changed}
use Rattle.eco_world.proofs.Common.{with_type}
use Rattle.eco_world.proofs.Changes.{had_ids}
use Rattle.eco_world.proofs.Steps.{refused}
use Rattle.eco_world.proofs.Extending.{loses}
use Rattle.eco_world.proofs.Losing.{cleared_plainly}
use Rattle.eco_world.proofs.world.World.clear.Goals as goal

pub returns-in_err-check_actor : goal.returns-in_err-check_actor
returns-in_err-check_actor c =
    let p = err_from_is_err_and c.from_residual.result c.from_residual.ensures.1 in
    rw (p.1, p.2) (refused c.args.self.now c.args.entity _ _ c.in_err-check_actor.ensures.err [] (Loses c.args.self.now (λ x j. entity_eq x c.args.entity)) _)

pub clear_mirrored-requires-clause-lawful : goal.clear_mirrored-requires-clause-lawful
clear_mirrored-requires-clause-lawful c =
    c.steps_keep_lawful.ensures.clear c.args.entity c.args.self.now (Ok tt) _ c.is_lawful.ensures
    (loses c.args.self.now c.args.entity c.in_ok-check_actor.ensures.ok.0 c.in_ok-check_actor.ensures.ok.1 (λ x j. entity_eq x c.args.entity))

pub retype-requires-clause-lawful : goal.retype-requires-clause-lawful
retype-requires-clause-lawful c =
    let w = c.args.self.now in
    subst (λ ids. IsLawful (changed w c.args.entity (with_type ids))) (sym c.empty-none.ensures)
    (subst IsLawful (cleared_plainly w c.args.entity c.is_lawful.ensures c.in_ok-check_actor.ensures.ok.0 (c.has_mirrors.ensures.none c.if-has_mirrors.false))
    (c.steps_keep_lawful.ensures.clear c.args.entity w (Ok tt) _ c.is_lawful.ensures
    (loses w c.args.entity c.in_ok-check_actor.ensures.ok.0 c.in_ok-check_actor.ensures.ok.1 (λ x j. entity_eq x c.args.entity))))

pub returns : goal.returns
returns c =
    rw (c.in_ok-check_actor.ensures.ok.0, c.in_ok-check_actor.ensures.ok.1) (
      refl,
      c.in_ok-retype.ensures.ok ∙ ap (λ ids. changed c.args.self.now c.args.entity (with_type ids)) c.empty-none.ensures
          ∙ sym (cleared_plainly c.args.self.now c.args.entity c.is_lawful.ensures c.in_ok-check_actor.ensures.ok.0
          (c.has_mirrors.ensures.none c.if-has_mirrors.false)),
    )

pub returns-in_err-retype : goal.returns-in_err-retype
returns-in_err-retype c =
    let w = c.args.self.now in
    let p = err_from_is_err_and c.from_residual-in_err-retype.result c.from_residual-in_err-retype.ensures.1 in
    rw (p.1, p.2, c.in_ok-check_actor.ensures.ok.0, c.in_ok-check_actor.ensures.ok.1) (
      had_ids w c.args.entity c.in_ok-check_actor.ensures.ok.0
          (λ own. true≢false (sym (c.in_err-retype.ensures.own (own ∙ ap Some (sym c.empty-none.ensures))))),
      c.in_err-retype.ensures.err,
    )
