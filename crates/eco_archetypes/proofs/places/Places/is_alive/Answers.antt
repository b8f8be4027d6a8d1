use Rattle.eco_archetypes.proofs.PlacesCommon.{◌∙◌, sym}
use Rattle.eco_archetypes.proofs.Seated.{alive_same}
use Rattle.eco_archetypes.proofs.places.Places.is_alive.Goals as goal

pub returns : goal.returns
returns c =
    rw (← c.self.view_is) (c.is_alive.ensures ∙ sym (alive_same c.self.inside.entities.now c.self.inside.archetypes.now c.args.entity))
