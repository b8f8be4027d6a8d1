use Rattle.eco_query.proofs.Common.{◌++◌, take, codes, flat_map, HasWritten, IsPlainFormatter, slot_text, slot_view}
use Rattle.eco_query.proofs.query.OthersDisplay.fmt.Given as goal

-- the slots so far, each behind its comma
abbrev pub invariant-loop-slot : goal.invariant-loop-slot
invariant-loop-slot g l =
    IsPlainFormatter l.initial.f →
    HasWritten g.W.Write.write_str_gives l.initial.f (flat_map (λ s. codes ", " ++ slot_text (slot_view s)) (take l.slot-index l.self.0.now)) l.f
