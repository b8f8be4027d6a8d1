use Rattle.eco_index.proofs.Common.{◌≡◌, None, Some, cond, ap, ◌∙◌, lookup, on_err, on_ok, same_id}
use Rattle.eco_index.proofs.EdgeLists.{put_edges, at_slot, stayed_edges}
use Rattle.eco_index.proofs.SlotEdges.{pushed}
use Rattle.eco_index.proofs.edges.put.Goals as goal

pub put-requires : goal.put-requires
put-requires c =
    at_slot c.args.lists.now.items c.args.slot c.index_mut.result.now c.requires.there c.index_mut.ensures.value c.args.id ∙ c.requires.absent

pub returns-clause-ok : goal.returns-clause-ok
returns-clause-ok c =
    let lists = c.args.lists.now.items in
    let own = c.index_mut.result.now in
    let is = at_slot lists c.args.slot own c.requires.there c.index_mut.ensures.value in
    let absent : lookup (same_id c.args.id) own ≡ None = is c.args.id ∙ c.requires.absent in
    on_ok c.put.result (λ are. put_edges lists c.args.slot c.put.new.self c.args.id (Some c.args.to) c.requires.there
    (λ q. ap (lookup (same_id q)) are ∙ pushed own c.args.id c.args.to absent q ∙ ap (cond (same_id c.args.id q) (Some c.args.to)) (is q))) c.put.ensures.ok

pub returns-clause-err : goal.returns-clause-err
returns-clause-err c = on_err c.put.result
    (stayed_edges c.args.lists.now.items c.args.slot c.index_mut.result.now c.put.new.self c.requires.there c.index_mut.ensures.value)
    c.put.ensures.err
