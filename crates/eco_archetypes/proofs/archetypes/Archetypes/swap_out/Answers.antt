use Rattle.eco_archetypes.proofs.Common.{inl, refl}
use Rattle.eco_archetypes.proofs.ArchetypeLemmas.{found_set, there_by_row}
use Rattle.eco_archetypes.proofs.Widths.{kept_widths, sets_kept}
use Rattle.eco_archetypes.proofs.archetypes.Archetypes.swap_out.Goals as goal

pub invariant_of-self : goal.invariant_of-self
invariant_of-self c =
    found_set c.self.invariant c.swap_out.ensures.rows
    (there_by_row c.self.inside.tables c.args.slot c.args.row (rw (← c.self.view_is) at c.requires)) refl refl

pub returns-clause-widths : goal.returns-clause-widths
returns-clause-widths c = rw (← c.self.view_is) (kept_widths _ _ (sets_kept c.self.inside.tables _ c.args.slot _ c.swap_out.ensures.rows (inl refl)))
