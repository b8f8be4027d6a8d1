use Rattle.eco_traits.proofs.CleanupCommon.{map, sym, ap, ◌∙◌, map_more, take_all, Root}
use Rattle.eco_traits.proofs.deleting.nodes_of.Goals as goal

pub loop-entity-preserved : goal.loop-entity-preserved
loop-entity-preserved c =
    (rw c.loop-entity.invariant at c.in_ok-push.ensures.items) ∙ sym (map_more Root c.args.entities.now c.loop-entity.entity-index _ c.loop-entity-test.true)

pub returns : goal.returns
returns c =
    c.loop-entity.invariant
    ∙ ap (map Root) (take_all c.loop-entity.entity-index c.args.entities.now c.loop-entity-test.false)
