use Rattle.eco_traits.proofs.CleanupCommon.{flat_map, ap, ◌∙◌, take_all, changes_at}
use Rattle.eco_traits.proofs.Pieces.{one_piece}
use Rattle.eco_traits.proofs.ties.Ties.changes.Goals as goal

pub loop-node-preserved : goal.loop-node-preserved
loop-node-preserved c = record {
  changes = one_piece (changes_at c.args.self.now.places.now.slots c.args.doomed.now.nodes.keys) c.as_slice-node-items.result.now c.loop-node.node-index _ _ _
      c.loop-node-test.true c.loop-node.invariant.changes c.in_ok-append_change.ensures.change;
  ascend = c.in_ok-append_change.ensures.ascend c.loop-node.invariant.ascend;
}

pub returns : goal.returns
returns c = record {
  changes = c.loop-node.invariant.changes ∙ ap (flat_map (changes_at c.args.self.now.places.now.slots c.args.doomed.now.nodes.keys))
      (take_all c.loop-node.node-index c.as_slice-node-items.result.now c.loop-node-test.false
      ∙ c.as_slice-node-items.ensures.keys);
  ascend = c.loop-node.invariant.ascend;
}
