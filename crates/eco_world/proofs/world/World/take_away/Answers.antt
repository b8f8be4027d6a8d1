use Rattle.eco_world.proofs.Common.{Ok, refl, sym, ◌∙◌, subst, IsLawful, takes_id, on_ok}
use Rattle.eco_world.proofs.Changes.{toggled_out, typed_without}
use Rattle.eco_world.proofs.Extending.{loses}
use Rattle.eco_world.proofs.Losing.{alone_taken}
use Rattle.eco_world.proofs.Mirroring.{another, lone}
use Rattle.eco_world.proofs.MirrorSteps.{go_both, holder_lives}
use Rattle.eco_world.proofs.world.World.take_away.Goals as goal

pub step_both-requires-clause-lawful : goal.step_both-requires-clause-lawful
step_both-requires-clause-lawful c =
    let w = c.args.self.now in
    let sought = another w c.args.entity c.args.id _ _ c.in-Some.is c.other_mirror.ensures in
    subst IsLawful (go_both w c.is_lawful.ensures c.args.entity c.args.id c.in-Some.mirror sought.0 sought.1 c.requires.there)
    (c.steps_keep_lawful.ensures.remove c.args.entity c.args.id w (Ok tt) _ c.is_lawful.ensures
    (loses w c.args.entity c.requires.alive c.requires.ordinary (takes_id c.args.entity c.args.id)))

pub step_both-requires-clause-holder : goal.step_both-requires-clause-holder
step_both-requires-clause-holder c =
    let w = c.args.self.now in
    let sought = another w c.args.entity c.args.id _ _ c.in-Some.is c.other_mirror.ensures in
    holder_lives w c.is_lawful.ensures c.args.entity c.args.id c.in-Some.mirror sought.0 sought.1 c.requires.there

pub returns-in-Some-clause-ok : goal.returns-in-Some-clause-ok
returns-in-Some-clause-ok c =
    let w = c.args.self.now in
    let sought = another w c.args.entity c.args.id _ _ c.in-Some.is c.other_mirror.ensures in
    on_ok c.step_both.result
    (λ is. is ∙ sym (go_both w c.is_lawful.ensures c.args.entity c.args.id c.in-Some.mirror sought.0 sought.1 c.requires.there)) c.step_both.ensures.ok

pub step-requires-clause-lawful : goal.step-requires-clause-lawful
step-requires-clause-lawful c =
    let w = c.args.self.now in
    subst IsLawful (sym (toggled_out w c.args.entity c.args.id c.requires.there ∙ typed_without w c.args.entity c.is_lawful.ensures c.args.id _ refl))
    (subst IsLawful (alone_taken w c.args.entity c.args.id (lone w c.args.entity c.args.id _ c.in_default.is c.other_mirror.ensures))
    (c.steps_keep_lawful.ensures.remove c.args.entity c.args.id w (Ok tt) _ c.is_lawful.ensures
    (loses w c.args.entity c.requires.alive c.requires.ordinary (takes_id c.args.entity c.args.id))))

pub returns-clause-ok : goal.returns-clause-ok
returns-clause-ok c =
    let w = c.args.self.now in
    on_ok c.step.result
    (λ is. is ∙ toggled_out w c.args.entity c.args.id c.requires.there ∙ typed_without w c.args.entity c.is_lawful.ensures c.args.id _ refl
    ∙ sym (alone_taken w c.args.entity c.args.id (lone w c.args.entity c.args.id _ c.in_default.is c.other_mirror.ensures))) c.step.ensures.ok
