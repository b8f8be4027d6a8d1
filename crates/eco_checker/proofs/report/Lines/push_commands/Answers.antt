use Rattle.eco_checker.proofs.Lines.{adds_more, some_adds}
use Rattle.eco_checker.proofs.report.Lines.push_commands.Goals.{in-Some+in_ok-push_fault, in_default}
use Rattle.eco_checker.proofs.report.Lines.push_commands.Goals as goal

pub loop-number-preserved : goal.loop-number-preserved
loop-number-preserved c = elim c.match-get.branch [
  | in-Some+in_ok-push_fault w ↦ rw w.self-is (adds_more _ _ _ _ c.loop-number.invariant (some_adds _ _ _ w.in_ok-push_fault.ensures))
  | in_default w ↦ rw w.self-is c.loop-number.invariant
]
