use Rattle.eco_frame.proofs.Common.{◌+◌, ◌<◌, ◌++◌, drop, length, map, arith, ap, ◌∙◌, map_push, pieces_in, seen_piece}
use Rattle.eco_frame.proofs.Cut.{piece_more}
use Rattle.eco_frame.proofs.part.add_pieces.Goals as goal

pub loop-first-preserved : goal.loop-first-preserved
loop-first-preserved g c =
    let rows = c.args.part.now.rows in
    let first = c.loop-first.first in
    let end = first + c.min.result in
    let body = c.args.part.now.body.now in
    let test = c.loop-first-test.true in
    let all = c.len.ensures in
    let left = c.len-in-loop-first.ensures in
    let least = c.min.ensures in
    let less : first < length rows = omega (arith, test, all) in
    let step = piece_more body rows first end (map seen_piece c.args.pieces.now.items) (map seen_piece c.loop-first.pieces.items) less
    (omega (arith, least, left)) c.loop-first.invariant.cut in
    record {
      within = omega (arith, least, left, less);
      cut = ap (λ l. map seen_piece l ++ pieces_in (body, drop end rows)) c.in_ok-push.ensures.items
          ∙ ap (λ l. l ++ pieces_in (body, drop end rows)) (map_push seen_piece c.loop-first.pieces.items _) ∙ step;
    }
