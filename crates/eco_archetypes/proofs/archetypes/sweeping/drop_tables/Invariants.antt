use Rattle.eco_archetypes.proofs.Common.{ℕ, List, ◌++◌, take, AreExact, type_at, RowlessIn, SameRows, DropsRowless, IsLess}
use Rattle.eco_archetypes.proofs.archetypes.sweeping.drop_tables.Given as goal

abbrev pub invariant-loop-slot : goal.invariant-loop-slot
invariant-loop-slot l = record {
  dropped : DropsRowless l.initial.tables l.tables (take l.slot-index l.slots);
  less : IsLess l.initial.tables l.tables;
  rowless : (others : List ℕ) → RowlessIn l.initial.tables (take l.slot-index l.slots ++ others) → RowlessIn l.tables others;
  rows : SameRows l.initial.tables l.tables;
  exact : AreExact (type_at l.initial.tables) l.initial.caches.list.items → AreExact (type_at l.tables) l.caches.list.items;
}
