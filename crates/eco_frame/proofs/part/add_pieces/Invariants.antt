use Rattle.eco_frame.proofs.Common.{◌≡◌, ◌-◌, ◌≤◌, ◌++◌, drop, length, map, pieces_in, seen_part, seen_piece}
use Rattle.eco_frame.proofs.part.add_pieces.Given as goal

-- those of the rows so far
abbrev pub invariant-loop-first : goal.invariant-loop-first
invariant-loop-first g l = record {
  within : l.first ≤ length l.part.rows;
  cut :
      map seen_piece l.pieces.items ++ pieces_in (l.part.body.now, drop l.first l.part.rows)
      ≡ map seen_piece l.initial.pieces.items ++ pieces_in (seen_part l.part);
}

abbrev pub decreases-loop-first : goal.decreases-loop-first
decreases-loop-first g l = length l.part.rows - l.first
