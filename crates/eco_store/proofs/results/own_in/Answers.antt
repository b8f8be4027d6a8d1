use Rattle.eco_store.proofs.AnswersCommon.{◌∙◌, ap, length, map, IfOk-weaker, asked, results_at, shown}
use Rattle.eco_store.proofs.Answered.{asks_asked}
use Rattle.eco_store.proofs.Blocked.{only_long, only_shown}
use Rattle.eco_store.proofs.results.own_in.Goals as goal

pub alone_in-requires-clause-only : goal.alone_in-requires-clause-only
alone_in-requires-clause-only c =
    let found = c.args.found in
    let kept = rw c.deref.ensures at (rw c.in-Some.is at c.in_ok-choices.ensures.kept) in
    ap length c.each.ensures ∙ only_long found.tables.now found.slots.items (asked c.args.query.now) c.in-Some.choices.all kept.only

pub returns-in-Some : goal.returns-in-Some
returns-in-Some c =
    let found = c.args.found in
    let kept = rw c.deref.ensures at (rw c.in-Some.is at c.in_ok-choices.ensures.kept) in
    c.alone_in.ensures
    ∙ ap (λ cs. map (shown cs) found.list) c.each.ensures
    ∙ only_shown found.tables.now found.slots.items (asked c.args.query.now) c.in-Some.choices.all kept.only found.list c.requires.places

pub returns-in-None : goal.returns-in-None
returns-in-None c =
    let found = c.args.found in
    IfOk-weaker c.expanded_in.result _ _
    (λ r is. is
    ∙ ap (λ ts. results_at found.tables.now found.slots.items ts found.list) (asks_asked c.slots.result.now c.args.query.now c.slots.ensures))
    c.expanded_in.ensures
