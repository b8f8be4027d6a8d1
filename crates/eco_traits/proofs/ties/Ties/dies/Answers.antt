use Rattle.eco_traits.proofs.CleanupCommon.{◌∙◌}
use Rattle.eco_traits.proofs.Deaths.{dies_nowhere, dies_there}
use Rattle.eco_traits.proofs.ties.Ties.dies.Goals as goal

pub returns-in-Some : goal.returns-in-Some
returns-in-Some c =
    c.takes.ensures
    ∙ dies_there c.args.self.now.places.now.slots c.args.doomed.now.nodes.keys c.args.entity c.in-Some.slot (rw c.in-Some.is at c.slot_of.ensures.some)
    (rw c.in-Some.is at c.slot_of.ensures.only)

pub returns-in-None : goal.returns-in-None
returns-in-None c =
    c.has_root.ensures
    ∙ dies_nowhere c.args.self.now.places.now.slots c.args.doomed.now.nodes.keys c.args.entity (rw c.in-None.is at c.slot_of.ensures.none)
