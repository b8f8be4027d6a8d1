use Rattle.eco_traits.proofs.CleanupCommon.{◌≡◌, flat_map, take, Ascend, changes_at}
use Rattle.eco_traits.proofs.ties.Ties.changes.Given as goal

abbrev pub invariant-loop-node : goal.invariant-loop-node
invariant-loop-node l = record {
  changes : l.changes.items ≡ flat_map (changes_at l.self.places.now.slots l.doomed.nodes.keys) (take l.node-index l.node-items);
  ascend : Ascend l.changes.items;
}
