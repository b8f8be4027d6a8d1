use Rattle.eco_archetypes.proofs.Shows.{housed}
use Rattle.eco_archetypes.proofs.places.Places.entities.Goals as goal

pub returns-clause-housed : goal.returns-clause-housed
returns-clause-housed c =
    rw (← c.self.view_is) (housed c.self.inside.entities.now c.self.inside.archetypes.now c.self.invariant)
