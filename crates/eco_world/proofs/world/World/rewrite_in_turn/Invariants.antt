use Rattle.eco_world.proofs.Common.{◌≡◌, ◌+◌, AreDone, length, take}
use Rattle.std.specs.Prelude.{◌%◌}
use Rattle.eco_stages.specs.Recorded.{in_turn}
use Rattle.eco_world.specs.Setting.{AreSettable}
use Rattle.eco_world.proofs.world.World.rewrite_in_turn.Given as goal

abbrev pub invariant-loop-k : goal.invariant-loop-k
invariant-loop-k g l = record {
  are_done : AreDone l.initial.self (in_turn l.ids l.first (take l.k l.sets)) l.initial.outcomes l.outcomes l.self;
  known : AreSettable l.self l.ids l.known;
  turn : l.turn ≡ (l.first + l.k) % length l.ids;
}
