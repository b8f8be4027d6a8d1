use Rattle.eco_traits.proofs.CleanupCommon.{None, Some, sym, ◌∙◌}
use Rattle.eco_traits.proofs.Forbidden.{judged_exactly}
use Rattle.eco_traits.proofs.ties.Ties.judge.Goals as goal

pub returns-in-None-clause-judged : goal.returns-in-None-clause-judged
returns-in-None-clause-judged c =
    judged_exactly c.args.self.now.places.now.entities c.args.self.now.places.now.slots c.requires.shown c.args.starts.now c.in_ok-doomed.doomed.nodes.keys
    c.requires.starts c.in_ok-doomed.ensures None (sym c.in-None.is ∙ c.first_objection.ensures)

pub returns-in-Some-clause-judged : goal.returns-in-Some-clause-judged
returns-in-Some-clause-judged c =
    judged_exactly c.args.self.now.places.now.entities c.args.self.now.places.now.slots c.requires.shown c.args.starts.now c.in_ok-doomed.doomed.nodes.keys
    c.requires.starts c.in_ok-doomed.ensures (Some c.in-Some.objection) (sym c.in-Some.is ∙ c.first_objection.ensures)
