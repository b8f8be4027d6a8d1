use Rattle.eco_world.proofs.Common.{◌≤◌, ◌-◌, length, take, IfSome, AreDone, IsSettable}
use Rattle.std.specs.Prelude.{map}
use Rattle.eco_stages.specs.Recorded.{set_of_run}
use Rattle.eco_world.proofs.world.World.apply_many.Given as goal

abbrev pub invariant-loop-done : goal.invariant-loop-done
invariant-loop-done g l = record {
  within : l.done ≤ length l.sets;
  are_done : AreDone l.initial.self (map (set_of_run l.id) (take l.done l.sets)) l.initial.outcomes l.outcomes l.self;
  known : IfSome l.known (IsSettable l.self l.id);
}

abbrev pub decreases-loop-done : goal.decreases-loop-done
decreases-loop-done g l = length l.sets - l.done
