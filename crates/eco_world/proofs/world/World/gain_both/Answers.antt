use Rattle.eco_world.proofs.Common.{Some, sym, ap, ◌∙◌, subst, IsLawful, changed, with_mirror, with_type, type_meant, type_of, on_ok}
use Rattle.eco_world.proofs.MirrorSteps.{come_both}
use Rattle.eco_world.proofs.world.World.gain_both.Goals as goal

pub step_both-requires-clause-lawful : goal.step_both-requires-clause-lawful
step_both-requires-clause-lawful c =
    let w = c.args.self.now in
    let e = c.args.entity in
    let m = c.args.mirror in
    subst IsLawful (sym (come_both w c.is_lawful.ensures e c.args.id m c.requires.mirror c.requires.other c.requires.absent))
    (subst (λ t. IsLawful (with_mirror (changed w e (with_type (type_meant (type_of w e) c.args.id t))) (Some m))) c.in-With.is c.requires.lawful)

pub returns-in-With-clause-ok : goal.returns-in-With-clause-ok
returns-in-With-clause-ok c =
    let w = c.args.self.now in
    let e = c.args.entity in
    let m = c.args.mirror in
    on_ok c.step_both.result (λ is. is ∙ come_both w c.is_lawful.ensures e c.args.id m c.requires.mirror c.requires.other c.requires.absent
    ∙ ap (λ t. with_mirror (changed w e (with_type (type_meant (type_of w e) c.args.id t))) (Some m)) (sym c.in-With.is)) c.step_both.ensures.ok
