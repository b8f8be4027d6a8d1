use Rattle.eco_traits.proofs.Common.{take, HasBrought}
use Rattle.eco_traits.proofs.brought.put_brought.Given as goal

abbrev pub invariant-loop-id : goal.invariant-loop-id
invariant-loop-id l = HasBrought l.list l.fn.list l.fn.single (take l.id-index l.traits)
