use Rattle.eco_checker.proofs.Lines.{adds_none, on_ok, some_adds}
use Rattle.eco_checker.proofs.report.Lines.push_ill_formed.Goals as goal

pub returns-then-is_well_formed : goal.returns-then-is_well_formed
returns-then-is_well_formed c = adds_none _ _

pub returns-else-is_well_formed : goal.returns-else-is_well_formed
returns-else-is_well_formed c = on_ok c.push_fault.result (some_adds _ _ _) c.push_fault.ensures
