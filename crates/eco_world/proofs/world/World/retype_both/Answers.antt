use Rattle.eco_world.proofs.Common.{◌∷◌, [], ap, ◌∙◌, IsLawful, type_meant, type_of, asked_by, world_with, on_ok}
use Rattle.eco_store.specs.declared.moving.Move.{Move}
use Rattle.eco_world.proofs.Changes.{by_result}
use Rattle.eco_world.proofs.Mirroring.{both_moved, apart}
use Rattle.eco_world.proofs.world.World.retype_both.Goals as goal

pub returns-clause-ok : goal.returns-clause-ok
returns-clause-ok c =
    let edition = c.self.inside.edition in
    let v = c.self.inside.store.entities in
    let qs = asked_by c.self.inside.queries.items in
    let w = c.args.self.now in
    let e = c.args.entity in
    let m = c.args.mirror in
    let first : Move = record { entity = e; type_list = c.in_ok-ids.ids } in
    let second : Move = record { entity = m.0; type_list = c.in_ok-theirs.theirs } in
    on_ok c.retype_all.result (λ is. ap (λ x. world_with edition x qs) is
    ∙ both_moved edition v qs w c.is_lawful.ensures c.self.view_is (first ∷ second ∷ []) e
    (type_meant (type_of w e) c.args.id c.args.target) m (apart m.0 e c.requires.other)
    (λ t. record { entity = e; type_list = c.in_ok-ids.ensures t } ∷ record { entity = m.0; type_list = c.in_ok-theirs.ensures t } ∷ []))
    c.retype_all.ensures.tries.ok

pub invariant_of-self : goal.invariant_of-self
invariant_of-self c =
    by_result IsLawful (λ x. world_with c.self.inside.edition x (asked_by c.self.inside.queries.items)) c.retype_all.result c.self.inside.store.entities _ _
    (returns-clause-ok c) c.retype_all.ensures.tries.err c.requires.lawful c.self.invariant
