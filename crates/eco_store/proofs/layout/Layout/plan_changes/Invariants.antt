use Rattle.eco_store.proofs.Common.{take, Plans, AreTransfersReady}
use Rattle.eco_store.proofs.layout.Layout.plan_changes.Given as goal

abbrev pub invariant-loop-change : goal.invariant-loop-change
invariant-loop-change l = record {
  plans : Plans l.initial.self l.self;
  ready : AreTransfersReady l.self.archetypes l.self.staying.targets l.transfers.items (take l.change-index l.changes);
}
