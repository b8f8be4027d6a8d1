use Rattle.eco_world.proofs.Common.{IsLawful, asked_by, world_with}
use Rattle.eco_world.proofs.Changes.{by_result}
use Rattle.eco_world.proofs.world.World.exchange.Goals as goal

pub invariant_of-self : goal.invariant_of-self
invariant_of-self c =
    let qs = asked_by c.self.inside.queries.items in
    by_result (λ v. IsLawful
    (world_with c.self.inside.edition v qs)) (λ v. v) c.exchange.result c.self.inside.store.entities _ _ c.exchange.ensures.ok c.exchange.ensures.err
    (rw (← c.self.view_is) at c.requires.lawful) c.self.invariant
