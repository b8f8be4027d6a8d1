use Rattle.eco_archetypes.proofs.Common.{inl, refl}
use Rattle.eco_archetypes.proofs.ArchetypeLemmas.{found_set, there_by_room}
use Rattle.eco_archetypes.proofs.Widths.{kept_widths, sets_kept}
use Rattle.eco_archetypes.proofs.archetypes.Archetypes.push_row.Goals as goal

pub invariant_of-self : goal.invariant_of-self
invariant_of-self c =
    found_set c.self.invariant c.push_row.ensures (there_by_room c.self.inside.tables c.args.slot (rw (← c.self.view_is) at c.requires)) refl refl

pub returns-clause-widths : goal.returns-clause-widths
returns-clause-widths c = rw (← c.self.view_is) (kept_widths _ _ (sets_kept c.self.inside.tables _ c.args.slot _ c.push_row.ensures (inl refl)))
