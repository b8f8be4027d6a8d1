use Rattle.eco_traits.proofs.CleanupCommon.{ap, ◌∙◌, take_all, taken_among, taken_by}
use Rattle.eco_traits.proofs.Pieces.{one_piece}
use Rattle.eco_traits.proofs.ties.Ties.dead.Goals as goal

pub loop-node-preserved : goal.loop-node-preserved
loop-node-preserved c =
    one_piece (taken_by c.args.self.now.places.now.slots) c.as_slice-node-items.result.now c.loop-node.node-index _ _ _ c.loop-node-test.true
    c.loop-node.invariant c.in_ok-append_taken.ensures

pub returns : goal.returns
returns c =
    let items = c.as_slice-node-items.result.now in
    c.loop-node.invariant ∙ ap (taken_among c.args.self.now.places.now.slots)
    (take_all c.loop-node.node-index items c.loop-node-test.false ∙ c.as_slice-node-items.ensures.keys)
