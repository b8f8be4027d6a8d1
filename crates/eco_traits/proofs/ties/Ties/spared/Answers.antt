use Rattle.eco_traits.proofs.CleanupCommon.{[], ap, ◌∙◌, take_all, names_any, taken_among, all_staying, with_staying}
use Rattle.eco_traits.proofs.ties.Ties.spared.Goals as goal

pub returns : goal.returns
returns c =
    let goes = names_any (taken_among c.args.self.now.places.now.slots c.args.doomed.now.nodes.keys) in
    let ids = c.args.ids.now in
    c.loop-id.invariant ∙ ap (λ xs. with_staying goes xs []) (take_all c.loop-id.id-index ids c.loop-id-test.false) ∙ all_staying goes ids c.requires
