use Rattle.eco_script.proofs.Common.{Err, ap}
use Rattle.eco_script.proofs.Runs.{not_read_to_end, ran_to_end}
use Rattle.eco_script.proofs.run.run_world.Goals as goal

pub returns-in-Ok-run_bytes-clause-ran : goal.returns-in-Ok-run_bytes-clause-ran
returns-in-Ok-run_bytes-clause-ran g c = λ _.
    ran_to_end c.args.workers _ _ c.in-Ok.bytes.items _ _ _ c.in-Ok.ensures.whole c.in-Ok.ensures.ended
    (rw c.as_slice.ensures.value at c.in-Ok-run_bytes.ensures.ok)

pub returns-in-Err-NotRead-clause-not_read : goal.returns-in-Err-NotRead-clause-not_read
returns-in-Err-NotRead-clause-not_read g c = λ _.
    not_read_to_end _ _ c.in-Ok.bytes.items _ _ c.in-Ok.ensures.whole c.in-Ok.ensures.ended
    (rw c.as_slice.ensures.value at (c.in-Err-NotRead.ensures.not_read (ap Err c.in-Err-NotRead.field-0-is)))
