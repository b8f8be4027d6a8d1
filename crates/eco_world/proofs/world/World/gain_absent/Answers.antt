use Rattle.eco_world.proofs.Common.{Ok, sym, subst, Adds, changed, with_toggled}
use Rattle.eco_world.proofs.Changes.{toggled_in}
use Rattle.eco_world.proofs.Extending.{IsGrown, found_other}
use Rattle.eco_world.proofs.Mirroring.{unmirrored}
use Rattle.eco_world.proofs.world.World.gain_absent.Goals.{Then-comes_alone}
use Rattle.eco_world.proofs.world.World.gain_absent.Goals as goal

-- where the id comes alone, and nobody has a mirror, the add is a step of the store
stepped : (c : goal.Then-comes_alone) → IsGrown c.args.self.now c.args.entity c.args.id (changed c.args.self.now c.args.entity (with_toggled c.args.id))
stepped c =
    let w = c.args.self.now in
    let alone = c.if-comes_alone.ensures in
    subst (IsGrown w c.args.entity c.args.id) (sym (toggled_in w c.args.entity c.args.id c.requires.absent))
    (found_other w c.args.entity c.args.id c.requires.alive c.requires.free c.is_lawful.ensures (c.steps_keep_lawful.ensures.add c.args.entity c.args.id)
    c.add_leaves_exactly.ensures c.requires.absent _ alone.1 (unmirrored w c.args.entity c.args.id alone.2))

pub step-requires-clause-lawful : goal.step-requires-clause-lawful
step-requires-clause-lawful c = (stepped (goal.at.step-requires-clause-lawful c).Then-comes_alone).lawful

pub returns-then-comes_alone : goal.returns-then-comes_alone
returns-then-comes_alone c =
    subst (λ new. Adds c.args.self.now c.args.entity c.args.id (Ok tt) new) (sym c.in_ok-step.ensures.ok)
    (stepped (goal.at.returns-then-comes_alone c).Then-comes_alone).adds
