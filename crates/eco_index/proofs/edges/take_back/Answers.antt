use Rattle.eco_index.proofs.Common.{None, cond, ap, sym, ◌∙◌, lookup, same_id}
use Rattle.eco_index.proofs.EdgeLists.{back_more, popped}
use Rattle.eco_index.proofs.SlotEdges.{unpushed}
use Rattle.eco_index.proofs.edges.take_back.Goals as goal

pub loop-id-preserved : goal.loop-id-preserved
loop-id-preserved c =
    let id = c.in-Some.id in
    let left = c.pop.new.self in
    let alone = c.in-Some.ensures.alone in (
      λ n j.
          back_more c.loop-id.own left c.loop-id.lists.items c.take.new.lists.items id c.in-Some.to
          (ap (lookup (same_id id)) c.in-Some.ensures.edges ∙ popped left id c.in-Some.to alone)
          (λ q. unpushed left id c.in-Some.to alone q ∙ ap (λ es. cond (same_id id q) None (lookup (same_id q) es)) (sym c.in-Some.ensures.edges))
          c.take.ensures.taken n j
          ∙ c.loop-id.invariant.0 n j,
      c.take.ensures.len ∙ c.loop-id.invariant.1,
    )
