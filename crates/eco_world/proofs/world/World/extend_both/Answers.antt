use Rattle.eco_world.proofs.Common.{◌≡◌, true, Ok, Some, sym, subst, second, err_from_is_err_and, Entity, Id, Adds, changed, is_alive, mirror_parts}
use Rattle.eco_world.proofs.Common.{names_living, with_mirror, with_type, type_meant, type_of}
use Rattle.eco_world.proofs.Extending.{IsGrown, found_mirrored, opposed_add}
use Rattle.eco_world.proofs.world.World.extend_both.Goals.{In_ok-target}
use Rattle.eco_world.proofs.world.World.extend_both.Goals as goal

pub returns-in_err-target : goal.returns-in_err-target
returns-in_err-target c =
    let p = err_from_is_err_and c.from_residual.result c.from_residual.ensures.1 in
    rw (p.1, p.2)
    (opposed_add c.args.self.now c.args.entity c.args.id c.requires.alive c.requires.free _ c.in_err-target.ensures.target (λ _. c.requires.absent))

-- the entity goes to the type that was found, and another gets the mirror
grown : (c : goal.In_ok-target) → IsGrown c.args.self.now c.args.entity c.args.id
    (with_mirror (changed c.args.self.now c.args.entity (with_type (type_meant (type_of c.args.self.now c.args.entity) c.args.id c.in_ok-target.target)))
    (Some c.args.mirror))
grown c =
    found_mirrored c.args.self.now c.args.entity c.args.id c.requires.alive c.requires.free c.is_lawful.ensures
    (c.steps_keep_lawful.ensures.add c.args.entity c.args.id) c.add_leaves_exactly.ensures c.requires.absent c.in_ok-target.target _
    c.in_ok-target.ensures.target c.requires.mirror

pub gain_both-requires-clause-lawful : goal.gain_both-requires-clause-lawful
gain_both-requires-clause-lawful c = (grown (goal.at.gain_both-requires-clause-lawful c).In_ok-target).lawful

-- it lives, since each entity in the pair does
pub gain_both-requires-clause-holder : goal.gain_both-requires-clause-holder
gain_both-requires-clause-holder c =
    let w = c.args.self.now in
    let pair = mirror_parts w c.args.entity c.args.id c.args.mirror c.requires.mirror in
    subst (λ (m : Entity × Id). is_alive w m.0 ≡ true) (sym pair.4)
    (second (is_alive w pair.0) (is_alive w pair.1) (subst (λ i. names_living w i ≡ true) pair.2 c.requires.living))

pub returns : goal.returns
returns c =
    subst (λ new. Adds c.args.self.now c.args.entity c.args.id (Ok tt) new) (sym c.in_ok-gain_both.ensures.ok)
    (grown (goal.at.returns c).In_ok-target).adds
