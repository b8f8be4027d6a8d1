use Rattle.eco_world.proofs.Common.{AreDone, take}
use Rattle.eco_stages.specs.Recorded.{in_turn}
use Rattle.eco_world.proofs.world.World.set_each_in_turn.Given as goal

abbrev pub invariant-loop-k : goal.invariant-loop-k
invariant-loop-k g l = AreDone l.initial.self (in_turn l.ids l.first (take l.k l.sets)) l.initial.outcomes l.outcomes l.self
