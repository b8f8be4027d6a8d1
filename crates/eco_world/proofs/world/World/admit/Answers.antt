use Rattle.eco_world.proofs.Common.{◌&&◌, nat_lt, Admits, may_admit, OnEntities, asked_by}
use Rattle.eco_world.proofs.Steps.{lifted, met_lawful}
use Rattle.eco_world.proofs.world.World.admit.Goals as goal

pub returns : goal.returns
returns c =
    let qs = asked_by c.self.inside.queries.items in
    let v = c.self.inside.store.entities in
    let n = c.args.count in
    rw (← c.self.view_is)
    (lifted c.self.inside.edition qs (λ x. Admits x n) (may_admit v n && nat_lt 0 n) v c.admit.new.self.entities c.admit.result c.admit.ensures.step)

pub invariant_of-self : goal.invariant_of-self
invariant_of-self c =
    met_lawful (OnEntities (λ v. Admits v c.args.count) c.args.self.now) _ _ c.args.self.now _ _ c.self.view_is c.self.invariant
    (c.steps_keep_lawful.ensures.admit c.args.count _ _ _) (returns c)
