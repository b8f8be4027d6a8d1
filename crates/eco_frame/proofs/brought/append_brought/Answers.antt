use Rattle.eco_frame.proofs.BatchesCommon.{arith, common_steps, append-nil}
use Rattle.eco_frame.proofs.Brings.{brought_more}
use Rattle.eco_frame.proofs.brought.append_brought.Goals.{in-Some+in_ok-push, in_default}
use Rattle.eco_frame.proofs.brought.append_brought.Goals as goal

pub loop-id-preserved : goal.loop-id-preserved
loop-id-preserved c = grind (arith, common_steps, in-Some+in_ok-push, brought_more, in_default, append-nil)
