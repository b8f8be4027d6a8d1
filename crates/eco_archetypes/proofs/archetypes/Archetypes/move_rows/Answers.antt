use Rattle.eco_archetypes.proofs.ArchetypeLemmas.{found_same, moves_all_types}
use Rattle.eco_archetypes.proofs.Widths.{kept_agreed, kept_widths, moves_all_kept}
use Rattle.eco_archetypes.proofs.archetypes.Archetypes.move_rows.Goals as goal

pub invariant_of-self : goal.invariant_of-self
invariant_of-self c =
    found_same c.self.invariant
    (moves_all_types _ _ c.args.from c.args.to c.move_rows.ensures (rw (← c.self.view_is) at c.requires.source)
    (rw (← c.self.view_is) at c.requires.target))
    (kept_agreed _ _ (moves_all_kept _ _ c.args.from c.args.to c.move_rows.ensures) c.self.invariant.agreed)

pub move_rows-requires-clause-widths : goal.move_rows-requires-clause-widths
move_rows-requires-clause-widths c = c.self.invariant.agreed c.args.to c.args.from

pub returns-clause-widths : goal.returns-clause-widths
returns-clause-widths c =
    rw (← c.self.view_is) (kept_widths _ _ (moves_all_kept c.self.inside.tables _ c.args.from c.args.to c.move_rows.ensures))
