use Rattle.eco_archetypes.proofs.Common.{sym, ◌∙◌}
use Rattle.eco_archetypes.proofs.ArchetypeLemmas.{type_is}
use Rattle.eco_archetypes.proofs.archetypes.Archetypes.last_with_room.Goals as goal

pub returns-clause-typed : goal.returns-clause-typed
returns-clause-typed c = rw (← c.self.view_is) (type_is _ _ (sym c.has_type.ensures ∙ c.if-not-has_type.false))
