use Rattle.eco_checker.proofs.Common.{◌≡◌, take, take_all}
use Rattle.eco_checker.proofs.Lines.{looked_up, one_more_step}
use Rattle.eco_checker.proofs.report.lines_of.Goals.{in-Some+in_ok-push_step, in_default}
use Rattle.eco_checker.proofs.report.lines_of.Goals as goal

pub loop-step-preserved : goal.loop-step-preserved
loop-step-preserved c = elim c.match-get.branch [
  | in-Some+in_ok-push_step w ↦
      rw w.lines-is (one_more_step c.args.faults.now.has_head c.args.faults.now.steps.items c.deref-step-items.result.now c.loop-step.step-index _ _ _
      c.deref-step-items.ensures.value c.loop-step-test.true c.loop-step.invariant w.in_ok-push_step.ensures)
  | in_default w ↦
      absurd (looked_up c.args.faults.now.steps.items c.deref-step-items.result.now c.loop-step.step-index _ _ c.requires
      c.deref-step-items.ensures.value c.loop-step-test.true w.in_default.ensures.lookup.0)
]

pub returns : goal.returns
returns c =
    let all : take c.loop-step.step-index c.args.faults.now.steps.items ≡ c.args.faults.now.steps.items =
    take_all _ _ (rw c.deref-step-items.ensures.value at c.loop-step-test.false) in
    rw all at c.loop-step.invariant
