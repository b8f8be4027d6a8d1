use Rattle.eco_frame.proofs.BatchesCommon.{◌≡◌, ◌++◌, drop, positions_from, systems_of}
use Rattle.eco_frame.proofs.order.add_positions.Given as goal

-- those of the systems that are left come behind
abbrev pub invariant-loop-position : goal.invariant-loop-position
invariant-loop-position l =
    l.order.items ++ positions_from l.phase l.position (systems_of (drop l.position l.systems)) ≡ l.initial.order.items ++ positions_from l.phase 0
    (systems_of l.systems)
