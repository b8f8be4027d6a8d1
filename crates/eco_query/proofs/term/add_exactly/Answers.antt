use Rattle.eco_query.proofs.Common.{◌++◌, map, take, ap, sym, ◌∙◌, refl, take_all, map_further}
use Rattle.eco_ids.proofs.Results.{err_says}
use Rattle.eco_query.specs.Queries as queries
use Rattle.eco_query.proofs.term.add_exactly.Goals as goal

pub loop-id-preserved : goal.loop-id-preserved
loop-id-preserved c =
    map_further c.args.ids.now c.loop-id.id-index _ _ queries.exactly c.args.patterns.now.items _ _ c.exactly.result c.loop-id-test.true refl
    c.loop-id.invariant c.exactly.ensures c.in_ok-push.ensures.items

pub returns-clause-ok : goal.returns-clause-ok
returns-clause-ok c =
    c.loop-id.invariant
    ∙ ap (λ t. c.args.patterns.now.items ++ map queries.exactly t) (take_all c.loop-id.id-index c.args.ids.now c.loop-id-test.false)

pub returns-in_err-push-clause-err : goal.returns-in_err-push-clause-err
returns-in_err-push-clause-err c =
    err_says c.from_residual.result
    (map queries.exactly (take c.loop-id.id-index c.args.ids.now), sym c.loop-id.invariant ∙ sym c.in_err-push.ensures.items)

pub returns-clause-err : goal.returns-clause-err
returns-clause-err c = tt
