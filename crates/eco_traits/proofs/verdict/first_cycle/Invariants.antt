use Rattle.eco_traits.proofs.Common.{take}
use Rattle.eco_traits.proofs.Verdicts.{NoneCloses}
use Rattle.eco_traits.proofs.verdict.first_cycle.Given as goal

abbrev pub invariant-loop-id : goal.invariant-loop-id
invariant-loop-id g l = NoneCloses (g.H.Holdings.world l.holdings) l.entity (take l.id-index l.ids)
