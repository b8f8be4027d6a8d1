use Rattle.eco_traits.proofs.Common.{◌≡◌, fold, take, unwrap_or, is_replaced}
use Rattle.eco_traits.proofs.Joined.{without_each}
use Rattle.eco_traits.proofs.target.kept.Given as goal

abbrev pub invariant-loop-id : goal.invariant-loop-id
invariant-loop-id g l = unwrap_or l.kept l.own ≡ fold (without_each (is_replaced (g.H.Holdings.world l.holdings) l.coming)) l.own (take l.id-index l.own)
