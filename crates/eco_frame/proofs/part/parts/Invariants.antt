use Rattle.eco_frame.proofs.Common.{◌≡◌, flat_map, map, take, part_at, seen_part}
use Rattle.eco_frame.proofs.part.parts.Given as goal

-- those of the positions so far
abbrev pub invariant-loop-place : goal.invariant-loop-place
invariant-loop-place g l = map seen_part l.parts.items ≡ flat_map (part_at l.world l.systems) (take l.place-index l.places)
