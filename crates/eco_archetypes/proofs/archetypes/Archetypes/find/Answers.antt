use Rattle.eco_archetypes.proofs.Common.{sym, ◌∙◌}
use Rattle.eco_archetypes.proofs.ArchetypeLemmas.{type_is}
use Rattle.eco_archetypes.proofs.archetypes.Archetypes.find.Goals as goal

pub returns-then-has_type-clause-found : goal.returns-then-has_type-clause-found
returns-then-has_type-clause-found c =
    rw (← c.self.view_is, ← c.as_slice.ensures.ids) (type_is _ _ (sym c.has_type.ensures ∙ c.if-has_type.true))
