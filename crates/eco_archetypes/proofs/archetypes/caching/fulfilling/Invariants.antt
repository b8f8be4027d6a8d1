use Rattle.eco_archetypes.proofs.Common.{take, AreThose, type_at}
use Rattle.eco_archetypes.proofs.archetypes.caching.fulfilling.Given as goal

abbrev pub invariant-loop-slot : goal.invariant-loop-slot
invariant-loop-slot l = AreThose (type_at (take l.slot l.tables)) l.query l.slots.keys
