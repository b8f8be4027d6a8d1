use Rattle.eco_grammar.proofs.Common.{◌≡◌, false, drop}
use Rattle.eco_grammar.proofs.Built.{misplaced}
use Rattle.eco_grammar.proofs.build.misplaces_wildcard.Given as goal

-- what the atoms that are left answer is what all do
abbrev pub invariant-loop-mark : goal.invariant-loop-mark
invariant-loop-mark l = misplaced false l.marks ≡ misplaced l.grouped (drop l.mark-index l.marks)
