use Rattle.eco_traits.proofs.Common.{take, BringFreely}
use Rattle.eco_traits.proofs.brought.bring_freely.Given as goal

abbrev pub invariant-loop-id : goal.invariant-loop-id
invariant-loop-id g l = BringFreely (g.H.Holdings.world l.holdings) (take l.id-index l.ids)
