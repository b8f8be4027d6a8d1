use Rattle.eco_archetypes.proofs.archetypes.Archetypes.tables.Goals as goal

pub returns-clause-kinds : goal.returns-clause-kinds
returns-clause-kinds c = rw (← c.self.view_is) c.self.invariant.kinds
