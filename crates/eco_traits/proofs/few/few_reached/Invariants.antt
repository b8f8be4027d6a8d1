use Rattle.std.proofs.Common.{◌-◌}
use Rattle.eco_traits.proofs.Noted.{IsWalk}
use Rattle.eco_traits.proofs.few.few_reached.Given as goal

abbrev pub invariant-loop-entity : goal.invariant-loop-entity
invariant-loop-entity g l = IsWalk (g.H.Holdings.world l.holdings) l.relationship l.fn.from l.few l.asked

abbrev pub decreases-loop-entity : goal.decreases-loop-entity
decreases-loop-entity g l = 8 - l.asked
