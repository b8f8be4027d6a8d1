use Rattle.eco_frame.proofs.Common.{map, refl, OutOfMemory, System, in_order, SystemModel, model_of}
use Rattle.eco_frame.proofs.Ran.{frame_stopped_at_once}
use Rattle.eco_frame.proofs.frame.stop_at_once.Goals as goal

pub returns-clause-frame : goal.returns-clause-frame
returns-clause-frame g c workers =
    let b = g.B.SystemBody in
    let f : System g.row.B.Denot → SystemModel = model_of b.reads_of b.writes_of b.kills_of b.taken b.commands in
    let systems = map f c.args.systems.now in
    let cut = c.batches_are_unique.ensures.exist c.args.world.now (in_order systems) c.is_lawful.ensures in
    frame_stopped_at_once workers c.args.world.now systems cut.0 cut.1 (record { batches = 0; refusal = OutOfMemory }) refl
