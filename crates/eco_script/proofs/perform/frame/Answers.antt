use Rattle.eco_script.proofs.Common.{Ok, Err}
use Rattle.eco_script.proofs.Declared.{frame_runs}
use Rattle.eco_script.proofs.perform.frame.Goals as goal

pub returns-in-Ok : goal.returns-in-Ok
returns-in-Ok g c =
    frame_runs c.args.workers c.args.world.now c.run_frame_with.new.world c.args.systems.now (Ok c.in-Ok.report) c.in-Ok.ensures.frame c.in-Ok.ensures.why

pub returns-in-Err : goal.returns-in-Err
returns-in-Err g c =
    frame_runs c.args.workers c.args.world.now c.run_frame_with.new.world c.args.systems.now (Err c.in-Err.stop) c.in-Err.ensures.frame c.in-Err.ensures.why
