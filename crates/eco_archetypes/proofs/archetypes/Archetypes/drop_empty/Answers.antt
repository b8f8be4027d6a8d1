use Rattle.eco_archetypes.proofs.Common.{slot_of, rowless_type}
use Rattle.eco_archetypes.proofs.Widths.{dropped_widths}
use Rattle.eco_archetypes.proofs.archetypes.Archetypes.drop_empty.Goals as goal

pub returns-then-is_rowless-clause-widths : goal.returns-then-is_rowless-clause-widths
returns-then-is_rowless-clause-widths c =
    dropped_widths _ _ c.args.slot (rowless_type (slot_of c.args.self.now c.args.slot)) c.forget.ensures.dropped c.forget.ensures.kept
