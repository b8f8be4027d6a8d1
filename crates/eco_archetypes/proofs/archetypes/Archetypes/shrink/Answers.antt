use Rattle.eco_archetypes.proofs.Common.{inl, refl}
use Rattle.eco_archetypes.proofs.ArchetypeLemmas.{found_set}
use Rattle.eco_archetypes.proofs.Widths.{kept_widths, sets_kept}
use Rattle.eco_archetypes.proofs.archetypes.Archetypes.shrink.Goals as goal

pub invariant_of-self : goal.invariant_of-self
invariant_of-self c = found_set c.self.invariant c.shrink.ensures (rw (← c.self.view_is) at c.requires.there) refl refl

pub returns-clause-widths : goal.returns-clause-widths
returns-clause-widths c = rw (← c.self.view_is) (kept_widths _ _ (sets_kept c.self.inside.tables _ c.args.slot _ c.shrink.ensures (inl refl)))
