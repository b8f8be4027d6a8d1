use Rattle.eco_world.proofs.Common.{◌≡◌, ◌∷◌, [], ◌++◌, IsTrue, ap, sym, ◌∙◌, subst, Entity, goes_too, entity_cmp, has_item, WorldState}
use Rattle.eco_world.proofs.Common.{entities_with, one_by_one, takes, holders, asked_by, world_with}
use Rattle.eco_world.specs.declared.loss.Loss.TheVariants.{Everywhere}
use Rattle.eco_world.proofs.Deleting.{holders_have}
use Rattle.eco_world.proofs.Holders.{found_holders}
use Rattle.eco_world.proofs.Losing.{taken_everywhere}
use Rattle.eco_world.proofs.world.World.remove_all_mirrored.Goals as goal

pub lose-requires-clause-losers : goal.lose-requires-clause-losers
lose-requires-clause-losers c =
    let w = c.args.self.now in
    let i = c.args.id in
    let v = c.self.inside.store.entities in
    let qs = asked_by c.self.inside.queries.items in
    let found : c.deref.result.now ≡ holders w i =
    c.deref.ensures.value ∙ c.in_ok-holders.ensures.all ∙ ap (entities_with v) c.exactly.ensures
    ∙ found_holders (world_with c.self.inside.edition v qs) i ∙ ap (λ (x : WorldState). holders x i) c.self.view_is in
    let listed : c.deref-2.result.now ≡ c.args.target ∷ c.deref.result.now =
    c.deref-2.ensures.value ∙ c.in_ok-extend_from_slice.ensures.items
    ∙ ap (λ xs. xs ++ c.deref.result.now) (c.in_ok-push.ensures.items ∙ ap (λ xs. xs ++ c.args.target ∷ []) c.new-losers.ensures.items) in
    taken_everywhere w i c.args.target c.deref.result.now c.requires.target
    (λ (x : Entity) has_it. subst (λ es. IsTrue (has_item entity_cmp es x)) (sym found) ((holders_have w i x).1 has_it))
    ∙ ap (one_by_one (goes_too w (takes (Everywhere i))) w) (sym listed)
