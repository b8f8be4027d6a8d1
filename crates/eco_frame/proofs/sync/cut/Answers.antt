use Rattle.eco_frame.proofs.BatchesCommon.{map, sym, ap, ◌∙◌, IfOk-weaker, cut_of}
use Rattle.eco_frame.proofs.Clashes.{cut_some, is_none, not_none}
use Rattle.eco_frame.proofs.sync.cut.Goals as goal

pub returns-then-is_empty : goal.returns-then-is_empty
returns-then-is_empty c =
    ap (map (λ b. b.items)) c.new.ensures.items
    ∙ sym (ap (cut_of c.args.outlines.now c.args.systems.now) (is_none c.args.order.now c.is_empty.result c.is_empty.ensures c.if-is_empty.true))

pub returns : goal.returns
returns c =
    IfOk-weaker c.join.result _ _
    (λ b h. h ∙ cut_some c.args.outlines.now c.args.systems.now c.args.order.now
    (not_none c.args.order.now c.is_empty.result c.is_empty.ensures c.if-is_empty.false))
    c.join.ensures
