use Rattle.eco_world.proofs.Common.{◌≡◌, ◌++◌, map, iter_rest, All, IsWhole, lent, listed}
use Rattle.eco_world.proofs.Lending.{lent_rows}
use Rattle.eco_world.proofs.Tabled.{with_rows}
use Rattle.eco_world.proofs.world.World.tables.Given as goal

abbrev pub invariant-loop-slot : goal.invariant-loop-slot
invariant-loop-slot l =
    (listed l.tables.items ++ with_rows (iter_rest l.slot-iterator) ≡ with_rows (iter_rest l.initial.slot-iterator))
    × (map lent l.tables.items ++ lent_rows l.self (iter_rest l.slot-iterator) ≡ lent_rows l.self (iter_rest l.initial.slot-iterator))
    × All IsWhole l.tables.items
