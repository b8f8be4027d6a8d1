use Rattle.eco_world.proofs.Common.{take, map, IfSome, AreDone, IsSettable}
use Rattle.eco_stages.specs.Recorded.{set_of_run}
use Rattle.eco_world.proofs.world.World.set_each.Given as goal

abbrev pub invariant-loop-set : goal.invariant-loop-set
invariant-loop-set g l = record {
  are_done : AreDone l.initial.self (map (set_of_run l.id) (take l.set-index l.sets)) l.initial.outcomes l.outcomes l.self;
  known : IfSome l.known (IsSettable l.self l.id);
}
