use Rattle.eco_world.proofs.Common.{◌≡◌, ◌∷◌, [], IsTrue, Ok, sym, ap, ◌∙◌, subst, err_from_is_err_and, is_builtin, Deletes, DeletesOne}
use Rattle.eco_world.proofs.Common.{IsLawful, entity_cmp, has_item, WorldState, is_alive, asked_by, world_with}
use Rattle.eco_world.proofs.Queried.{ends_with}
use Rattle.eco_world.proofs.Deleting.{one_deleted}
use Rattle.eco_world.proofs.Steps.{met_lawful, refused}
use Rattle.eco_world.proofs.Unheld.{is_named, taken_out}
use Rattle.eco_world.proofs.world.World.delete.Goals as goal

pub returns-in_err-check_actor : goal.returns-in_err-check_actor
returns-in_err-check_actor c =
    let p = err_from_is_err_and c.from_residual.result c.from_residual.ensures.1 in
    rw (p.1, p.2) (refused c.args.self.now c.args.entity _ _ c.in_err-check_actor.ensures.err [] (Deletes c.args.self.now (λ x. x ≡ c.args.entity)) _)

pub returns-then-is_named : goal.returns-then-is_named
returns-then-is_named c =
    let v = c.self.inside.store.entities in
    let new = c.delete.new.store.entities in
    let qs = asked_by c.self.inside.queries.items in
    let e = c.args.entity in
    rw (← c.self.view_is)
    (one_deleted (world_with c.self.inside.edition v qs) (world_with c.self.inside.edition new qs) e c.delete.result
    (ap (λ (x : WorldState). is_alive x e) c.self.view_is ∙ c.in_ok-check_actor.ensures.ok.0)
    (ap (λ (x : WorldState). is_builtin x e) c.self.view_is ∙ c.in_ok-check_actor.ensures.ok.1)
    (ends_with c.self.inside.edition v new qs c.delete.result (λ x. IsTrue (has_item entity_cmp (e ∷ []) x)) c.delete.ensures))

pub invariant_of-self : goal.invariant_of-self
invariant_of-self c =
    met_lawful (DeletesOne c.args.self.now c.args.entity) _ _ c.args.self.now _ _ c.self.view_is c.self.invariant
    (c.steps_keep_lawful.ensures.delete c.args.entity _ _ _) (returns-then-is_named c)

pub returns : goal.returns
returns c =
    let v = c.self.inside.store.entities in
    let qs = asked_by c.self.inside.queries.items in
    let e = c.args.entity in
    rw (← c.self.view_is)
    (taken_out c.self.inside.edition v c.take_out.new.self.entities qs e
    (ap (λ (x : WorldState). is_alive x e) c.self.view_is ∙ c.in_ok-check_actor.ensures.ok.0)
    (ap (λ (x : WorldState). is_builtin x e) c.self.view_is ∙ c.in_ok-check_actor.ensures.ok.1)
    (ap (λ (x : WorldState). is_named x e) c.self.view_is ∙ sym c.is_named.ensures ∙ c.if-is_named.false) c.take_out.ensures.entities)

pub invariant_of-self-2 : goal.invariant_of-self-2
invariant_of-self-2 c =
    c.steps_keep_lawful.ensures.delete c.args.entity c.args.self.now (Ok tt) _ (subst IsLawful c.self.view_is c.self.invariant) (returns c)
