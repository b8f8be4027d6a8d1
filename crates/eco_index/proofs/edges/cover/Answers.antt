use Rattle.eco_index.proofs.Common.{◌∙◌, ◌∷◌, [], arith, length-append}
use Rattle.eco_index.proofs.EdgeLists.{cover_edges}
use Rattle.eco_index.proofs.edges.cover.Goals as goal

pub loop-lists-preserved : goal.loop-lists-preserved
loop-lists-preserved c =
    let lists = c.loop-lists.lists.items in
    let more = c.new.result in
    rw c.in_ok-push.ensures.items (
      λ n j. cover_edges lists more c.new.ensures n j ∙ c.loop-lists.invariant.0 n j,
      omega (arith, length-append lists (more ∷ []), c.loop-lists.invariant.1),
    )
