use Rattle.eco_world.proofs.Common.{◌≤◌, ◌-◌, AreDone, length, take}
use Rattle.eco_stages.specs.Recorded.{in_turn}
use Rattle.eco_world.proofs.world.World.apply_in_turn.Given as goal

abbrev pub invariant-loop-done : goal.invariant-loop-done
invariant-loop-done g l = record {
  within : l.done ≤ length l.sets;
  are_done : AreDone l.initial.self (in_turn l.ids 0 (take l.done l.sets)) l.initial.outcomes l.outcomes l.self;
}

abbrev pub decreases-loop-done : goal.decreases-loop-done
decreases-loop-done g l = length l.sets - l.done
