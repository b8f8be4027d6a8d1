use Rattle.eco_world.proofs.Common.{None, MakesAlive, MakesAliveWith, bare, is_free_at, asked_by}
use Rattle.eco_world.proofs.Steps.{lifted, met_lawful}
use Rattle.eco_world.proofs.world.World.make_alive.Goals as goal

pub returns : goal.returns
returns c =
    let qs = asked_by c.self.inside.queries.items in
    let v = c.self.inside.store.entities in
    let e = c.args.entity in
    rw (← c.self.view_is)
    (lifted c.self.inside.edition qs (λ x. MakesAliveWith x e (bare None))
    (is_free_at v e) v c.make_alive.new.self.entities c.make_alive.result c.make_alive.ensures.step)

pub invariant_of-self : goal.invariant_of-self
invariant_of-self c =
    met_lawful (MakesAlive c.args.self.now c.args.entity) _ _ c.args.self.now _ _ c.self.view_is c.self.invariant
    (c.steps_keep_lawful.ensures.make_alive c.args.entity _ _ _) (returns c)
