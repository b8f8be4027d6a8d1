use Rattle.eco_world.proofs.Common.{◌≡◌, map, take, goes_too, takes}
use Rattle.eco_world.proofs.Mirroring.{move_to_kept}
use Rattle.eco_world.proofs.world.World.moves_to_kept.Given as goal

abbrev pub invariant-loop-loser : goal.invariant-loop-loser
invariant-loop-loser l = l.moves.items ≡ map (move_to_kept l.self (goes_too l.self (takes l.loss))) (take l.loser-index l.losers)
