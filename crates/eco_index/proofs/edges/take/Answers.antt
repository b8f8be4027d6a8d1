use Rattle.eco_index.proofs.Common.{None, cond, ap, ◌∙◌, arith, same_id}
use Rattle.eco_index.proofs.EdgeLists.{put_edges, at_slot, take_past}
use Rattle.eco_index.proofs.edges.take.Goals as goal

pub returns-then-slot-len-clause-taken : goal.returns-then-slot-len-clause-taken
returns-then-slot-len-clause-taken c = put_edges c.args.lists.now.items c.args.slot c.take.new.self c.args.id None (omega arith)
    (λ q. c.take.ensures q ∙ ap (λ o. cond (same_id c.args.id q) None o)
    (at_slot c.args.lists.now.items c.args.slot c.index_mut.result.now (omega arith) c.index_mut.ensures.value q))

pub returns-else-slot-len-clause-taken : goal.returns-else-slot-len-clause-taken
returns-else-slot-len-clause-taken c = take_past c.args.lists.now.items c.args.slot c.args.id (omega arith)
