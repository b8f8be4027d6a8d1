use Rattle.eco_archetypes.proofs.Shows.{shows}
use Rattle.eco_archetypes.proofs.places.Places.are_shown.Goals as goal

pub returns : goal.returns
returns c =
    rw (← c.self.view_is)
    (shows c.self.inside.entities.now c.self.inside.archetypes.now c.self.invariant (rw c.tables.ensures.same at c.rows_have_ids.ensures))
