use Rattle.eco_store.proofs.Common.{◌≡◌, map, take, table_in}
use Rattle.eco_store.proofs.store.searching.types_in.Given as goal

abbrev pub invariant-loop-slot : goal.invariant-loop-slot
invariant-loop-slot l = l.types.items ≡ map (λ slot. (table_in l.tables slot).ids) (take l.slot-index l.slots)
