use Rattle.eco_bodies.proofs.Common.{◌≡◌}
use Rattle.eco_bodies.proofs.Fields.{summed}
use Rattle.eco_bodies.proofs.sum.sums_of.Given as goal

abbrev pub invariant-loop-k : goal.invariant-loop-k
invariant-loop-k g l = l.fields ≡ summed l.k l.fn.a l.b
