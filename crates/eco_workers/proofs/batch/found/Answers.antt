use Rattle.eco_workers.proofs.Common.{arith}
use Rattle.eco_workers.proofs.Stops.{found_done, found_full, found_first, found_less, found_later}
use Rattle.eco_workers.proofs.batch.found.Goals as goal

pub returns-in-Done : goal.returns-in-Done
returns-in-Done c ends h = rw c.in-Done.is (found_done c.args.least c.args.full ends h)

pub returns-in-NoMemory : goal.returns-in-NoMemory
returns-in-NoMemory c ends h = rw c.in-NoMemory.is (found_full c.args.least c.args.full ends h)

pub returns-in-None : goal.returns-in-None
returns-in-None c ends h = rw c.in-Refused.is (found_first c.args.full c.in-Refused.number c.in-Refused.refusal ends (rw c.in-None.is at h))

pub returns-then-number-before : goal.returns-then-number-before
returns-then-number-before c ends h = rw c.in-Refused.is (found_less _ c.args.full _ _ ends (omega arith) (rw c.in-Some.is at h))

pub returns-else-number-before : goal.returns-else-number-before
returns-else-number-before c ends h =
    rw (c.in-Some.is, c.in-Refused.is) (found_later _ c.args.full _ _ ends (omega arith) (rw c.in-Some.is at h))
