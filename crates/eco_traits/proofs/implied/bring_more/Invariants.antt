use Rattle.eco_traits.proofs.Common.{take, BringNoMore}
use Rattle.eco_traits.proofs.implied.bring_more.Given as goal

abbrev pub invariant-loop-id : goal.invariant-loop-id
invariant-loop-id g l = BringNoMore (g.H.Holdings.world l.holdings) (take l.id-index l.ids)
