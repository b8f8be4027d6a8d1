use Rattle.eco_world.proofs.Common.{◌≡◌, ◌++◌, ◌∷◌, [], drop, Entity, Record}
use Rattle.eco_world.proofs.Walk.{walk}
use Rattle.eco_world.proofs.world.World.living.Given as goal

abbrev pub invariant-loop-index : goal.invariant-loop-index
invariant-loop-index l =
    l.entities.items ++ walk (λ (p : Entity × Record). p.0 ∷ []) l.index (drop l.index l.self.indices)
    ≡ walk (λ (p : Entity × Record). p.0 ∷ []) 0 l.self.indices
