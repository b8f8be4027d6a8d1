use Rattle.eco_world.proofs.Common.{Ok, sym, subst, err_from_is_err_and, Adds, changed, with_type}
use Rattle.eco_world.proofs.Extending.{IsGrown, found_other, opposed_add}
use Rattle.eco_world.proofs.world.World.extend_by_closure.Goals.{In_ok-ids}
use Rattle.eco_world.proofs.world.World.extend_by_closure.Goals as goal

pub returns-in_err-ids : goal.returns-in_err-ids
returns-in_err-ids c =
    let p = err_from_is_err_and c.from_residual.result c.from_residual.ensures.1 in
    rw (p.1, p.2)
    (opposed_add c.args.self.now c.args.entity c.args.id c.requires.alive c.requires.free _ c.in_err-ids.ensures (λ _. c.requires.absent))

-- the entity goes to the type that was found
grown : (c : goal.In_ok-ids)
    → IsGrown c.args.self.now c.args.entity c.args.id (changed c.args.self.now c.args.entity (with_type c.in_ok-ids.ids))
grown c =
    found_other c.args.self.now c.args.entity c.args.id c.requires.alive c.requires.free c.is_lawful.ensures
    (c.steps_keep_lawful.ensures.add c.args.entity c.args.id) c.add_leaves_exactly.ensures c.requires.absent c.in_ok-ids.ids c.in_ok-ids.ensures
    c.requires.alone

pub retype-requires-clause-lawful : goal.retype-requires-clause-lawful
retype-requires-clause-lawful c = (grown (goal.at.retype-requires-clause-lawful c).In_ok-ids).lawful

pub returns : goal.returns
returns c =
    subst (λ new. Adds c.args.self.now c.args.entity c.args.id (Ok tt) new) (sym c.in_ok-retype.ensures.ok)
    (grown (goal.at.returns c).In_ok-ids).adds
