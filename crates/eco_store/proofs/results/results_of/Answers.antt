use Rattle.eco_store.proofs.AnswersCommon.{◌<◌, ◌∙◌, length, arith, rules, IfOk-weaker}
use Rattle.eco_ids.proofs.Results.{err_says}
use Rattle.eco_store.proofs.Answered.{all_fit, held_answers, none_answers, some_answers, standings_answer}
use Rattle.eco_store.proofs.results.results_of.Goals as goal

pub returns-in_err-found-clause-some : goal.returns-in_err-found-clause-some
returns-in_err-found-clause-some c =
    err_says c.from_residual.result (held_answers c.args.places.now.entities c.args.query.now c.in_err-found.ensures.some)

pub returns-then-is_empty-clause-all : goal.returns-then-is_empty-clause-all
returns-then-is_empty-clause-all c =
    let found = c.in_ok-found.found in
    none_answers c.args.places.now.entities found.tables.now found.slots.items c.args.query.now found.list c.in_ok-found.ensures.all
    c.in_ok-found.ensures.placed (search (rules, arith)) c.none.result c.none.ensures

pub returns-clause-all : goal.returns-clause-all
returns-clause-all c =
    let found = c.in_ok-found.found in
    IfOk-weaker c.results_in.result _ _
    (λ r is. is
    ∙ standings_answer c.args.places.now.entities found.tables.now found.slots.items c.args.query.now found.list c.in_ok-found.ensures.all
    c.in_ok-found.ensures.placed)
    c.results_in.ensures

pub returns-clause-some : goal.returns-clause-some
returns-clause-some c =
    let found = c.in_ok-found.found in
    let some : 0 < length found.list = search (rules, arith) in
    err_says c.results_in.result (some_answers c.args.places.now.entities c.args.query.now found.list c.in_ok-found.ensures.all some)

pub results_in-requires-clause-fit : goal.results_in-requires-clause-fit
results_in-requires-clause-fit c =
    let found = c.in_ok-found.found in
    all_fit c.args.places.now.entities found.tables.now found.slots.items c.args.query.now found.list c.in_ok-found.ensures.all c.in_ok-found.ensures.placed
