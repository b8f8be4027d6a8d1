use Rattle.eco_archetypes.proofs.PlacesCommon.{sym, ◌∙◌}
use Rattle.eco_archetypes.proofs.Placed.{if_none, stands_at, stands_nowhere, stands_only}
use Rattle.eco_archetypes.proofs.places.Places.slot_of.Goals as goal

pub returns-clause-some : goal.returns-clause-some
returns-clause-some c =
    rw (← c.self.view_is)
    (stands_at c.self.inside.entities.now c.self.inside.archetypes.now c.self.invariant c.args.entity c.in_ok-place.place
    (sym c.place_of.ensures ∙ c.in_ok-place.was))

pub returns-clause-only : goal.returns-clause-only
returns-clause-only c =
    rw (← c.self.view_is)
    (stands_only c.self.inside.entities.now c.self.inside.archetypes.now c.self.invariant c.args.entity c.in_ok-place.place
    (sym c.place_of.ensures ∙ c.in_ok-place.was))

pub returns-in_err-place-clause-none : goal.returns-in_err-place-clause-none
returns-in_err-place-clause-none c =
    rw (← c.self.view_is)
    (if_none c.from_residual.result
    (stands_nowhere c.self.inside.entities.now c.self.inside.archetypes.now c.self.invariant c.args.entity (sym c.place_of.ensures ∙ c.in_err-place.was)))
