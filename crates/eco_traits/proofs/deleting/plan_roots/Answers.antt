use Rattle.eco_traits.proofs.deleting.plan_roots.Goals as goal

pub returns-clause-planned : goal.returns-clause-planned
returns-clause-planned g c = rw c.places.ensures at c.plan_delete.ensures.planned

pub returns-clause-judged : goal.returns-clause-judged
returns-clause-judged g c = rw c.places.ensures at c.plan_delete.ensures.judged
