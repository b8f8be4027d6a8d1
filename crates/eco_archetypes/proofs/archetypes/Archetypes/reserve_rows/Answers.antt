use Rattle.eco_archetypes.proofs.Common.{inl, on_err, refl}
use Rattle.eco_archetypes.proofs.ArchetypeLemmas.{found_set}
use Rattle.eco_archetypes.proofs.Makings.{same_room}
use Rattle.eco_archetypes.proofs.Widths.{kept_widths, sets_kept}
use Rattle.eco_archetypes.proofs.archetypes.Archetypes.reserve_rows.Goals as goal

pub invariant_of-self : goal.invariant_of-self
invariant_of-self c = found_set c.self.invariant c.reserve_rows.ensures.sets (rw (← c.self.view_is) at c.requires) refl refl

pub returns-clause-widths : goal.returns-clause-widths
returns-clause-widths c = rw (← c.self.view_is) (kept_widths _ _ (sets_kept c.self.inside.tables _ c.args.slot _ c.reserve_rows.ensures.sets (inl refl)))

pub returns-clause-refused : goal.returns-clause-refused
returns-clause-refused c =
    rw (← c.self.view_is)
    (on_err c.reserve_rows.result
    (same_room c.self.inside.tables _ c.args.slot c.reserve_rows.ensures.sets (rw (← c.self.view_is) at c.requires))
    c.reserve_rows.ensures.err)
