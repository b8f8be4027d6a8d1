use Rattle.eco_frame.proofs.Common.{◌≡◌, flat_map, map, take, pieces_in, seen_part, seen_piece}
use Rattle.eco_frame.proofs.part.pieces.Given as goal

-- those of the parts so far
abbrev pub invariant-loop-part : goal.invariant-loop-part
invariant-loop-part g l = map seen_piece l.pieces.items ≡ flat_map pieces_in (map seen_part (take l.part-index l.parts))
