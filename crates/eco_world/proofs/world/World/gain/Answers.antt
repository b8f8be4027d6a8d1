use Rattle.eco_world.proofs.Common.{Ok, refl, sym, subst, Adds, changed, with_toggled}
use Rattle.eco_traits.specs.Prospect.{Foresees}
use Rattle.eco_world.proofs.Changes.{toggled_in}
use Rattle.eco_world.proofs.Extending.{IsGrown, adds_there, found_other}
use Rattle.eco_world.proofs.Mirroring.{unmirrored}
use Rattle.eco_world.proofs.world.World.gain.Goals.{In-Alone}
use Rattle.eco_world.proofs.world.World.gain.Goals as goal

pub returns-in-Dead : goal.returns-in-Dead
returns-in-Dead c =
    let dead = subst (Foresees c.args.self.now c.args.entity c.args.id) c.in-Dead.is c.foresee.ensures in
    rw (c.requires.alive, c.requires.free, dead) (refl, refl)

pub returns-in-There : goal.returns-in-There
returns-in-There c =
    let there = subst (Foresees c.args.self.now c.args.entity c.args.id) c.in-There.is c.foresee.ensures in
    adds_there c.args.self.now c.args.entity c.args.id c.requires.alive c.requires.free there.0 there.1

-- where the target is the type with the id, and nobody has a mirror, the add is a step of the store
stepped : (c : goal.In-Alone) → IsGrown c.args.self.now c.args.entity c.args.id (changed c.args.self.now c.args.entity (with_toggled c.args.id))
stepped c =
    let w = c.args.self.now in
    let alone = subst (Foresees w c.args.entity c.args.id) c.in-Alone.is c.foresee.ensures in
    subst (IsGrown w c.args.entity c.args.id) (sym (toggled_in w c.args.entity c.args.id alone.0))
    (found_other w c.args.entity c.args.id c.requires.alive c.requires.free c.is_lawful.ensures (c.steps_keep_lawful.ensures.add c.args.entity c.args.id)
    c.add_leaves_exactly.ensures alone.0 _ alone.1 (unmirrored w c.args.entity c.args.id alone.2))

pub step-requires-clause-lawful : goal.step-requires-clause-lawful
step-requires-clause-lawful c = (stepped (goal.at.step-requires-clause-lawful c).In-Alone).lawful

pub returns-in_ok-step-in-Alone : goal.returns-in_ok-step-in-Alone
returns-in_ok-step-in-Alone c =
    subst (λ new. Adds c.args.self.now c.args.entity c.args.id (Ok tt) new) (sym c.in_ok-step-in-Alone.ensures.ok)
    (stepped (goal.at.returns-in_ok-step-in-Alone c).In-Alone).adds

pub extend-requires-clause-living : goal.extend-requires-clause-living
extend-requires-clause-living c = (subst (Foresees c.args.self.now c.args.entity c.args.id) c.in-Open.is c.foresee.ensures).0

pub extend-requires-clause-absent : goal.extend-requires-clause-absent
extend-requires-clause-absent c = (subst (Foresees c.args.self.now c.args.entity c.args.id) c.in-Open.is c.foresee.ensures).1
