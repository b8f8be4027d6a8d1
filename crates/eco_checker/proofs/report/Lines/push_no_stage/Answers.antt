use Rattle.eco_checker.proofs.Lines.{on_ok, some_adds}
use Rattle.eco_checker.proofs.report.Lines.push_no_stage.Goals as goal

pub returns : goal.returns
returns c = on_ok c.push_line.result (some_adds _ _ _) c.push_line.ensures
