use Rattle.eco_grammar.proofs.Common.{arith, common_steps}
use Rattle.eco_grammar.proofs.Built.{wildcard_found, wildcard_none}
use Rattle.eco_grammar.proofs.build.misplaces_wildcard.Goals as goal

pub returns-then-has_wildcard : goal.returns-then-has_wildcard
returns-then-has_wildcard c = grind (arith, common_steps, wildcard_found)

pub returns-then-misplaces_last : goal.returns-then-misplaces_last
returns-then-misplaces_last c = grind (arith, common_steps, wildcard_found)

pub returns : goal.returns
returns c = wildcard_none c.args.marks.now c.loop-mark.grouped c.loop-mark.mark-index c.requires c.loop-mark.invariant c.loop-mark-test.false
