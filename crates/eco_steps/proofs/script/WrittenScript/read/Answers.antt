use Rattle.eco_steps.proofs.Common.{map, sym, view, step_view}
use Rattle.std.proofs.lemmas.Result.{err_from_is_err_and}
use Rattle.eco_steps.proofs.Decodes.{script_is, steps_keep, no_steps}
use Rattle.eco_steps.proofs.script.WrittenScript.read.Goals as goal

pub returns-in_err-steps-clause-not_a_script : goal.returns-in_err-steps-clause-not_a_script
returns-in_err-steps-clause-not_a_script c = λ e.
    let p = err_from_is_err_and c.from_residual.result c.from_residual.ensures.1 in
    no_steps (view c.args.value.now) c.in-Some.edition c.in-Some.limit (map view c.in-Some.items.now) (sym c.in-Some.ensures)
    (c.in_err-steps.ensures.not_a_script cc)

pub returns-clause-ok : goal.returns-clause-ok
returns-clause-ok c =
    script_is (view c.args.value.now) c.in-Some.edition c.in-Some.limit (map view c.in-Some.items.now) (map step_view c.in_ok-steps.steps.items)
    (sym c.in-Some.ensures) c.in_ok-steps.ensures.ok

pub returns-clause-keeps : goal.returns-clause-keeps
returns-clause-keeps c =
    let is = script_is (view c.args.value.now) c.in-Some.edition c.in-Some.limit (map view c.in-Some.items.now) (map step_view c.in_ok-steps.steps.items)
    (sym c.in-Some.ensures) c.in_ok-steps.ensures.ok in
    steps_keep step_view c.in-Some.edition is.items c.in_ok-steps.steps.items is.are_steps
