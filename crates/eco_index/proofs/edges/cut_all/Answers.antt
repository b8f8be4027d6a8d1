use Rattle.eco_index.proofs.Common.{length-set, arith, ap, sym, ◌∙◌, cond, None, get_or, set, lookup, edge, same_id, leads_to}
use Rattle.eco_index.proofs.EdgeLists.{cut_bare, cut_edges, cut_empty, cut_past, emptied_edges}
use Rattle.eco_index.proofs.edges.cut_all.Goals as goal

pub returns-then-is_empty : goal.returns-then-is_empty
returns-then-is_empty c =
    cut_empty c.args.lists.now.items c.args.slot c.index.result.now c.requires (omega arith) c.index.ensures (c.is_empty.ensures.0 c.if-is_empty.true)

pub returns-else-is_empty : goal.returns-else-is_empty
returns-else-is_empty c =
    let old = c.args.lists.now.items in
    let slot = c.args.slot in
    let now = c.take_back.new.lists.items in
    let own = c.replace-own.result in
    let taken = c.replace-own.ensures.value in
    let cuts = cut_edges old now slot own c.new.result c.requires (omega arith)
    (taken ∙ c.index_mut.ensures.value ∙ ap (get_or old slot) (sym taken)) c.new.ensures
    (λ n j. c.take_back.ensures.taken n j
    ∙ ap (λ m. cond (leads_to n (lookup (same_id j) own)) None (edge (set old slot m) n j)) c.replace-own.ensures.after) in
    λ n j. emptied_edges now slot c.take_back.new.own (omega (arith, c.take_back.ensures.len, length-set old slot c.replace-own.new.dest))
    (cut_bare old now slot cuts) c.take_back.ensures.none n j ∙ cuts n j

pub returns-else-slot-len : goal.returns-else-slot-len
returns-else-slot-len c = cut_past c.args.lists.now.items c.args.slot c.requires (omega arith)
