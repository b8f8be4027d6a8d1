use Rattle.eco_steps.proofs.DevicesCommon.{Keeps}
use Rattle.eco_steps.proofs.counted.read_again.Given as goal

-- nothing was read
abbrev pub invariant-loop : goal.invariant-loop
invariant-loop g l = Keeps (g.R.Read.remaining l.initial.reader) (g.R.Read.remaining l.reader)
