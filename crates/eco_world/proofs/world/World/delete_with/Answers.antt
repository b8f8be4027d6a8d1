use Rattle.eco_world.proofs.Common.{IsTrue, sym, ap, ◌∙◌, is_builtins, DeletesWith, entity_cmp, has_item, WorldState, entities_with, asked_by, world_with}
use Rattle.eco_world.proofs.Holders.{found_holders}
use Rattle.eco_world.proofs.Deleting.{with_deleted}
use Rattle.eco_world.proofs.Queried.{ends_with}
use Rattle.eco_world.proofs.Steps.{met_lawful}
use Rattle.eco_world.proofs.world.World.delete_with.Goals as goal

pub returns : goal.returns
returns c =
    let v = c.self.inside.store.entities in
    let qs = asked_by c.self.inside.queries.items in
    let w = world_with c.self.inside.edition v qs in
    let i = c.args.id in
    let new = c.delete_with.new.store.entities in
    let roots = entities_with v c.exactly.result in
    rw (← c.self.view_is)
    (with_deleted w (world_with c.self.inside.edition new qs) i c.delete_with.result roots
    (ap (entities_with v) c.exactly.ensures ∙ found_holders w i)
    (ap (λ (x : WorldState). is_builtins x i) c.self.view_is ∙ sym c.is_builtins.ensures ∙ c.if-is_builtins.false)
    (ends_with c.self.inside.edition v new qs c.delete_with.result (λ x. IsTrue (has_item entity_cmp roots x)) c.delete_with.ensures))

pub invariant_of-self : goal.invariant_of-self
invariant_of-self c =
    met_lawful (DeletesWith c.args.self.now c.args.id) _ _ c.args.self.now _ _ c.self.view_is c.self.invariant
    (c.steps_keep_lawful.ensures.delete_with c.args.id _ _ _) (returns c)
