use Rattle.eco_query.proofs.Common.{◌++◌, take, codes, flat_map, HasWritten, IsPlainFormatter}
use Rattle.eco_ids.specs.Text.{id_text}
use Rattle.eco_query.proofs.term.OthersDisplay.fmt.Given as goal

-- the ids so far, each behind its `||`
abbrev pub invariant-loop-id : goal.invariant-loop-id
invariant-loop-id g l =
    IsPlainFormatter l.initial.f →
    HasWritten g.W.Write.write_str_gives l.initial.f (flat_map (λ i. codes " || " ++ id_text i) (take l.id-index l.self.0.now)) l.f
