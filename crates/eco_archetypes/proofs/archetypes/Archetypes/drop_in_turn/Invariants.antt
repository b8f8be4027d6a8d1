use Rattle.eco_archetypes.proofs.Common.{take, Sweeps}
use Rattle.eco_archetypes.proofs.archetypes.Archetypes.drop_in_turn.Given as goal

abbrev pub invariant-loop-slot : goal.invariant-loop-slot
invariant-loop-slot l = Sweeps l.initial.self l.self (take l.slot-index l.slots)
