use Rattle.eco_workers.proofs.Common.{take, ends_of, IsFound}
use Rattle.eco_workers.proofs.batch.first_refusal.Given as goal

abbrev pub invariant-loop-one : goal.invariant-loop-one
invariant-loop-one l = IsFound l.least l.full (ends_of (take l.one-index l.worked))
