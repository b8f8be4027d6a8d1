use Rattle.eco_world.proofs.Common.{◌≡◌, ◌∷◌, take, mirror_holders}
use Rattle.eco_world.proofs.world.World.with_mirror_holders.Given as goal

abbrev pub invariant-loop-id : goal.invariant-loop-id
invariant-loop-id l = l.losers.items ≡ l.entity ∷ mirror_holders l.self l.entity (take l.id-index l.ids)
