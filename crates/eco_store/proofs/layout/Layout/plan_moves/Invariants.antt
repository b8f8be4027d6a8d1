use Rattle.eco_store.proofs.Common.{take, Plans, AreMovesReady}
use Rattle.eco_store.proofs.layout.Layout.plan_moves.Given as goal

abbrev pub invariant-loop-next : goal.invariant-loop-next
invariant-loop-next l = record {
  plans : Plans l.initial.self l.self;
  ready : AreMovesReady l.self.archetypes l.self.staying.targets (take l.next-index l.moves) l.slots.items;
}
