use Rattle.eco_world.proofs.Common.{ap, subst, sym, IsLawful, changed, stepped, with_toggled, asked_by, world_with}
use Rattle.eco_world.proofs.Changes.{by_result}
use Rattle.eco_world.proofs.world.World.step_both.Goals as goal

pub invariant_of-self : goal.invariant_of-self
invariant_of-self c =
    let v = c.self.inside.store.entities in
    let qs = asked_by c.self.inside.queries.items in
    let e = c.args.entity in
    let i = c.args.id in
    let m = c.args.mirror in
    by_result (λ x. IsLawful (world_with c.self.inside.edition x qs)) (λ x. x) c.step_both.result v c.step_both.new.self.entities
    (stepped (stepped v (e, i)) m)
    c.step_both.ensures.ok c.step_both.ensures.err
    (subst IsLawful (sym (ap (λ w. changed (changed w e (with_toggled i)) m.0 (with_toggled m.1)) c.self.view_is)) c.requires.lawful) c.self.invariant
