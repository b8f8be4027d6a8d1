use Rattle.eco_world.proofs.Common.{ap, ◌∙◌, IsLawful, goes_too, takes, asked_by, world_with, on_ok}
use Rattle.eco_world.proofs.Changes.{by_result}
use Rattle.eco_world.proofs.Mirroring.{lost_all}
use Rattle.eco_world.proofs.world.World.lose.Goals as goal

pub returns-clause-ok : goal.returns-clause-ok
returns-clause-ok c =
    let edition = c.self.inside.edition in
    let v = c.self.inside.store.entities in
    let qs = asked_by c.self.inside.queries.items in
    let ms = c.deref.result.now in
    on_ok c.retype_all.result (λ is. ap (λ x. world_with edition x qs) is
    ∙ lost_all edition v qs c.args.self.now c.is_lawful.ensures c.self.view_is ms (goes_too c.args.self.now (takes c.args.loss))
    c.args.losers.now (c.deref.ensures.value ∙ c.in_ok-moves.ensures) c.requires.losers)
    c.retype_all.ensures.tries.ok

pub invariant_of-self : goal.invariant_of-self
invariant_of-self c =
    by_result IsLawful (λ x. world_with c.self.inside.edition x (asked_by c.self.inside.queries.items)) c.retype_all.result c.self.inside.store.entities _ _
    (returns-clause-ok c) c.retype_all.ensures.tries.err c.requires.lawful c.self.invariant
