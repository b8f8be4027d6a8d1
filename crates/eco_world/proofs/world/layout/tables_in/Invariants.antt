use Rattle.eco_world.proofs.Common.{◌≡◌, map, take, All, IsWhole, lent, lent_at}
use Rattle.eco_world.proofs.world.layout.tables_in.Given as goal

abbrev pub invariant-loop-slot : goal.invariant-loop-slot
invariant-loop-slot l =
    (map lent l.found.items ≡ map (lent_at l.world l.tables) (take l.slot-index l.slots))
    × All IsWhole l.found.items
