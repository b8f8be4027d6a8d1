use Rattle.eco_frame.proofs.BatchesCommon.{sym}
use Rattle.eco_frame.proofs.Brings.{brought_by_ids, has_shown}
use Rattle.eco_frame.proofs.brought.ids_of_head.Goals as goal

pub returns-in-Some-type_of : goal.returns-in-Some-type_of
returns-in-Some-type_of g c =
    let w = g.H.Holdings.world c.args.holdings.now in
    brought_by_ids c.heads_bring_patterns.ensures w c.args.pattern c.in-Some.head c.as_slice.result.now (sym c.in-Some.ensures)
    (has_shown w c.in-Some.head c.in-Some-type_of.ids.now c.as_slice.result.now c.in-Some-type_of.ensures c.as_slice.ensures.ids)
