use Rattle.eco_frame.proofs.frame.run_frame_with.Goals as goal

pub returns-in_default-clause-frame : goal.returns-in_default-clause-frame
returns-in_default-clause-frame g c = c.stop_at_once.ensures.frame c.args.workers
