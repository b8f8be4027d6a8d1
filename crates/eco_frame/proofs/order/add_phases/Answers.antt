use Rattle.eco_frame.proofs.BatchesCommon.{systems_of}
use Rattle.eco_frame.proofs.Orders.{phase_more}
use Rattle.eco_frame.proofs.order.add_phases.Goals as goal

pub loop-phase-preserved : goal.loop-phase-preserved
loop-phase-preserved c =
    phase_more (systems_of c.args.systems.now) c.args.phases.now c.loop-phase.phase-index _ c.args.order.now.items c.loop-phase.order.items
    c.add_positions.new.order.items c.loop-phase-test.true c.loop-phase.invariant c.in_ok-add_positions.ensures
