use Rattle.eco_archetypes.proofs.Common.{◌≡◌, take, length, asks, AreOnly, type_at}
use Rattle.eco_archetypes.proofs.archetypes.caching.only_on.Given as goal

abbrev pub invariant-loop-slot : goal.invariant-loop-slot
invariant-loop-slot l = record {
  wide : l.only.width ≡ length l.terms;
  made : AreOnly (type_at l.tables) (asks l.terms) (take l.slot-index l.slots) l.only.all;
}
