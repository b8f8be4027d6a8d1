use Rattle.eco_world.proofs.Common.{sym, ap, subst, Indexed, IsLawful, Record, StoreState, asked_by, world_with}
use Rattle.eco_world.proofs.Queried.{lawful_with}
use Rattle.eco_world.proofs.world.World.add_query.Goals as goal

pub invariant_of-self-2 : goal.invariant_of-self-2
invariant_of-self-2 c =
    let qs = asked_by c.self.inside.queries.items in
    let now = asked_by c.push_reserved.new.self.items in
    subst (λ (v : Indexed Record). IsLawful (world_with c.self.inside.edition v now)) (sym (ap (λ (s : StoreState). s.entities) c.keep.ensures.same))
    (lawful_with c.self.inside.edition c.self.inside.store.entities qs now c.self.invariant)
