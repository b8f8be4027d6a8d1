use Rattle.eco_traits.proofs.CleanupCommon.{◌||◌, ap, ◌∙◌, arith, take_all, list_any, is_one_of, touches, world_of}
use Rattle.eco_traits.proofs.CleanupNoted.{one_more}
use Rattle.eco_traits.proofs.ties.Ties.append_standing.Goals as goal

pub loop-entity-preserved : goal.loop-entity-preserved
loop-entity-preserved c = λ b.
    c.in_ok-append_named.ensures b
    ∙ one_more (λ e. touches (world_of c.args.self.now.places.now.entities) c.args.self.now.places.now.slots e b) c.standing-entity-items.result.now
    c.loop-entity.entity-index _ (omega (arith, c.loop-entity-test.true)) (is_one_of c.args.found.now.items b) (is_one_of c.loop-entity.found.items b)
    (c.loop-entity.invariant b)

pub returns : goal.returns
returns c =
    let w = world_of c.args.self.now.places.now.entities in
    let slots = c.args.self.now.places.now.slots in
    λ b. c.loop-entity.invariant b ∙ ap (λ es. is_one_of c.args.found.now.items b || list_any (λ e. touches w slots e b) es)
    (take_all c.loop-entity.entity-index c.standing-entity-items.result.now c.loop-entity-test.false ∙ c.standing-entity-items.ensures)
