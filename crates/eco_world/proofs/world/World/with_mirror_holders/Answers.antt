use Rattle.eco_world.proofs.Common.{◌∷◌, ap, ◌∙◌, take_all, mirror_holders}
use Rattle.eco_world.proofs.Losing.{next_holder}
use Rattle.eco_world.proofs.world.World.with_mirror_holders.Goals as goal

pub loop-id-preserved : goal.loop-id-preserved
loop-id-preserved c =
    next_holder c.args.self.now c.args.entity c.ids_of-ids.result.now c.loop-id.id-index _ c.loop-id.losers.items _ c.loop-id-test.true
    c.in_ok-append_holder.ensures c.loop-id.invariant

pub returns : goal.returns
returns c =
    c.loop-id.invariant
    ∙ ap (λ ks. c.args.entity ∷ mirror_holders c.args.self.now c.args.entity ks) (take_all c.loop-id.id-index c.ids_of-ids.result.now c.loop-id-test.false)
    ∙ ap (λ ks. c.args.entity ∷ mirror_holders c.args.self.now c.args.entity ks) c.ids_of-ids.ensures.ids
