use Rattle.eco_frame.proofs.Common.{Err, IfErr, map, subst, System, SystemModel, model_of, IsFrameBy, IsWhy}
use Rattle.eco_frame.proofs.pipeline.Pipeline.run.Goals as goal

pub returns-in_default-clause-frame : goal.returns-in_default-clause-frame
returns-in_default-clause-frame g c =
    let b = g.B.SystemBody in
    let f : System g.row.B.Denot → SystemModel = model_of b.reads_of b.writes_of b.kills_of b.taken b.commands in
    let w = c.args.world.now in
    subst (λ ss. IsFrameBy c.args.workers w (map f ss) (Err c.stop_at_once.result) w) c.self.view_is (c.stop_at_once.ensures.frame c.args.workers)

pub returns-clause-frame : goal.returns-clause-frame
returns-clause-frame g c =
    let b = g.B.SystemBody in
    let f : System g.row.B.Denot → SystemModel = model_of b.reads_of b.writes_of b.kills_of b.taken b.commands in
    let w = c.args.world.now in
    subst (λ ss. IsFrameBy c.args.workers w (map f ss) c.run_batches.result c.run_batches.new.world) c.self.view_is c.run_batches.ensures.frame

pub returns-clause-why : goal.returns-clause-why
returns-clause-why g c =
    let b = g.B.SystemBody in
    let f : System g.row.B.Denot → SystemModel = model_of b.reads_of b.writes_of b.kills_of b.taken b.commands in
    let w = c.args.world.now in
    subst (λ ss. IfErr c.run_batches.result (λ stop. IsWhy b.taken b.commands f w ss stop c.run_batches.new.world)) c.self.view_is c.run_batches.ensures.why
