use Rattle.eco_frame.proofs.Common.{map, IfOk-weaker, ArePlacedBatches, System, SystemModel, ArePlaced, model_of}
use Rattle.eco_frame.specs.Plans.{batches_in}
use Rattle.eco_frame.proofs.Placed.{placed_of}
use Rattle.eco_frame.proofs.pipeline.renew.Goals as goal

pub returns-clause-placed : goal.returns-clause-placed
returns-clause-placed g c =
    let b = g.B.SystemBody in
    let f : System g.row.B.Denot → SystemModel = model_of b.reads_of b.writes_of b.kills_of b.taken b.commands in
    let w = c.args.world.now in
    let declared = c.args.plan.now.systems.items in
    let batches = batches_in c.renew.new.self in
    IfOk-weaker c.renew.result (λ _. ArePlacedBatches w declared batches) (λ _. ArePlaced w (map f c.args.systems.now) batches)
    (λ _ h. placed_of c.systems_are_ordered.ensures.order f w c.args.systems.now declared batches c.requires.declared h) c.renew.ensures.placed
