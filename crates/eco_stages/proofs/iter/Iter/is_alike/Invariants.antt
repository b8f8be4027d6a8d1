use Rattle.eco_stages.proofs.Common.{◌≡◌, length, alike_in_memory}
use Rattle.eco_stages.proofs.iter.Iter.is_alike.Given as goal

abbrev pub invariant-loop-outcome : goal.invariant-loop-outcome
invariant-loop-outcome l = alike_in_memory l.own l.others ≡ alike_in_memory l.fn.self l.fn.other

abbrev pub decreases-loop-outcome : goal.decreases-loop-outcome
decreases-loop-outcome l = length l.own
