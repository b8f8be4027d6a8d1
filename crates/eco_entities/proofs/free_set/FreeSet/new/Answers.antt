use Rattle.eco_entities.proofs.Common.{refl}
use Rattle.eco_entities.specs.FreeBits.{bits_below}
use Rattle.eco_entities.proofs.Levels.{levelled_none}
use Rattle.eco_entities.proofs.free_set.FreeSet.new.Goals as goal

pub invariant_of-result : goal.invariant_of-result
invariant_of-result c = rw (c.new.ensures, c.new-2.ensures, c.new-3.ensures) levelled_none

pub returns : goal.returns
unfolding bits_below
returns c = refl
