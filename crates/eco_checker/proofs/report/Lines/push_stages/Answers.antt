use Rattle.eco_checker.proofs.Lines.{adds_more}
use Rattle.eco_checker.proofs.report.Lines.push_stages.Goals as goal

pub loop-stage-preserved : goal.loop-stage-preserved
loop-stage-preserved c = adds_more _ _ _ _ c.loop-stage.invariant c.in_ok-push_stage.ensures
