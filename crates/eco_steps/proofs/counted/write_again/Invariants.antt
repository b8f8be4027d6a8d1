use Rattle.eco_steps.proofs.DevicesCommon.{Keeps}
use Rattle.eco_steps.proofs.counted.write_again.Given as goal

-- nothing was written
abbrev pub invariant-loop : goal.invariant-loop
invariant-loop g l = Keeps (g.W.Write.contents l.initial.writer) (g.W.Write.contents l.writer)
