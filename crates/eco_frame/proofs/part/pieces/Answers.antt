use Rattle.eco_frame.proofs.Common.{ap, flat_map, map, ◌∙◌, take_all, pieces_in, seen_part, seen_piece}
use Rattle.eco_frame.proofs.Cut.{flat_more}
use Rattle.eco_frame.proofs.part.pieces.Goals as goal

pub loop-part-preserved : goal.loop-part-preserved
loop-part-preserved g c =
    flat_more pieces_in seen_part c.args.parts.now c.loop-part.part-index c.part-item.result (map seen_piece c.loop-part.pieces.items)
    (map seen_piece c.add_pieces.new.pieces.items) c.loop-part-test.true c.part-item.is c.loop-part.invariant c.in_ok-add_pieces.ensures

pub returns : goal.returns
returns g c =
    c.loop-part.invariant ∙ ap (λ ps. flat_map pieces_in (map seen_part ps)) (take_all c.loop-part.part-index c.args.parts.now c.loop-part-test.false)
