use Rattle.eco_archetypes.proofs.Common.{inl, refl}
use Rattle.eco_archetypes.proofs.ArchetypeLemmas.{found_set, there_by_row}
use Rattle.eco_archetypes.proofs.Widths.{fits_each, kept_widths, sets_kept}
use Rattle.eco_archetypes.proofs.archetypes.Archetypes.set_value.Goals as goal

pub invariant_of-self : goal.invariant_of-self
invariant_of-self c =
    found_set c.self.invariant c.set_value.ensures.written
    (there_by_row c.self.inside.tables c.args.slot c.args.row (rw (← c.self.view_is) at c.requires.row)) refl refl

pub set_value-requires-clause-fits : goal.set_value-requires-clause-fits
set_value-requires-clause-fits c =
    fits_each c.self.inside.tables c.args.slot c.args.id c.args.value (rw (← c.self.view_is) at c.requires.fits)

pub returns-clause-widths : goal.returns-clause-widths
returns-clause-widths c = rw (← c.self.view_is) (kept_widths _ _ (sets_kept c.self.inside.tables _ c.args.slot _ c.set_value.ensures.written (inl refl)))
