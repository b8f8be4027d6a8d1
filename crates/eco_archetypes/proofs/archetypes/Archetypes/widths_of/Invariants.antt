use Rattle.eco_archetypes.proofs.Common.{take, need, AreWidths}
use Rattle.eco_archetypes.proofs.archetypes.Archetypes.widths_of.Given as goal

abbrev pub invariant-loop-id : goal.invariant-loop-id
invariant-loop-id l = AreWidths (need l.entities) l.self (take l.id-index l.ids) l.widths.items
