use Rattle.eco_index.proofs.Common.{arith, sym, ◌∙◌, id_ties, same_id}
use Rattle.eco_index.proofs.SlotEdges.{here_at, past_at}
use Rattle.eco_index.proofs.edges.edge_list.lead_among.Goals as goal

pub returns-then-is : goal.returns-then-is
returns-then-is c =
    sym (here_at (same_id c.args.id) c.args.edges.now c.loop-own.own-index _ c.loop-own.invariant (omega arith)
    (id_ties c.args.id _ ∙ sym c.is.ensures.is ∙ c.if-is.true))

pub loop-own-preserved : goal.loop-own-preserved
loop-own-preserved c =
    past_at (same_id c.args.id) c.args.edges.now c.loop-own.own-index _ c.loop-own.invariant (omega arith)
    (id_ties c.args.id _ ∙ sym c.is.ensures.is ∙ c.if-is.false)
