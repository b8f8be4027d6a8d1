use Rattle.eco_index.proofs.FirstMatch.{first_more, if_none, several}
use Rattle.eco_index.proofs.only_entry.only_match_of.Goals as goal

pub loop-id-preserved : goal.loop-id-preserved
loop-id-preserved c =
    first_more c.args.pattern c.args.ids.now c.loop-id.id-index _ c.loop-id-test.true c.requires c.loop-id.first c.in_ok-first.first c.loop-id.invariant
    c.in_ok-first.ensures.next

pub returns-in_err-first-clause-several : goal.returns-in_err-first-clause-several
returns-in_err-first-clause-several c =
    if_none c.from_residual.result
    (several c.args.pattern c.args.ids.now c.loop-id.id-index _ c.loop-id-test.true c.requires c.loop-id.first c.loop-id.invariant c.in_err-first.ensures.other)
