use Rattle.eco_archetypes.proofs.ArchetypeLemmas.{found_same, moves_types, there_by_row, there_by_room}
use Rattle.eco_archetypes.proofs.Widths.{kept_agreed, kept_widths, moves_kept}
use Rattle.eco_archetypes.proofs.archetypes.Archetypes.move_row.Goals as goal

pub invariant_of-self : goal.invariant_of-self
invariant_of-self c =
    found_same c.self.invariant
    (moves_types _ _ c.args.from c.args.row c.args.to c.move_row.ensures.moves
    (there_by_row c.self.inside.tables c.args.from c.args.row (rw (← c.self.view_is) at c.requires.row))
    (there_by_room c.self.inside.tables c.args.to (rw (← c.self.view_is) at c.requires.room)))
    (kept_agreed _ _ (moves_kept _ _ c.args.from c.args.row c.args.to c.move_row.ensures.moves) c.self.invariant.agreed)

pub move_row-requires-clause-widths : goal.move_row-requires-clause-widths
move_row-requires-clause-widths c = c.self.invariant.agreed c.args.to c.args.from

pub returns-clause-widths : goal.returns-clause-widths
returns-clause-widths c =
    rw (← c.self.view_is) (kept_widths _ _ (moves_kept c.self.inside.tables _ c.args.from c.args.row c.args.to c.move_row.ensures.moves))
