use Rattle.eco_frame.proofs.BatchesCommon.{◌≡◌, ◌++◌, take, flat_map, positions_from, systems_of}
use Rattle.eco_frame.proofs.order.add_phases.Given as goal

abbrev pub invariant-loop-phase : goal.invariant-loop-phase
invariant-loop-phase l = l.order.items ≡ l.initial.order.items ++ flat_map (λ phase. positions_from phase 0 (systems_of l.systems))
    (take l.phase-index l.phases)
