use Rattle.eco_grammar.proofs.Common.{◌≡◌, drop, list_any, ends_positive}
use Rattle.eco_grammar.proofs.build.has_positive.Given as goal

-- no atom so far asks for something that is there
abbrev pub invariant-loop-mark : goal.invariant-loop-mark
invariant-loop-mark l = list_any ends_positive l.marks ≡ list_any ends_positive (drop l.mark-index l.marks)
