use Rattle.eco_traits.proofs.Planned.{planned}
use Rattle.eco_traits.proofs.ties.Ties.plan.Goals as goal

pub returns-clause-planned : goal.returns-clause-planned
returns-clause-planned c =
    planned c.args.self.now.places.now.entities c.args.self.now.places.now.slots c.requires.shown c.args.starts.now c.in_ok-doomed.doomed.nodes.keys
    c.requires.starts c.in_ok-doomed.ensures.searched c.in_ok-plan.plan.dead.items c.in_ok-plan.plan.changes.items c.in_ok-plan.ensures.dead
    c.in_ok-plan.ensures.changes c.in_ok-plan.ensures.ascend
