use Rattle.eco_script.proofs.Common.{Err, [], ap, map, Keeps-refl, err_from_is_err_and, step_view, script_view, reached}
use Rattle.serde_json.specs.View.{view}
use Rattle.eco_script.proofs.Runs.{no_script_bytes, ran_bytes, stopped_bytes}
use Rattle.eco_script.proofs.run.run_bytes.Goals as goal

pub of_edition-requires : goal.of_edition-requires
of_edition-requires g c =
    let is = c.in-Ok-read.ensures.ok in
    record { at_least = is.at_least; at_most = is.at_most }

pub run_steps-requires-clause-keeps : goal.run_steps-requires-clause-keeps
run_steps-requires-clause-keeps g c = λ κs lives.
    rw (c.as_slice.ensures.value, c.in-Ok-of_edition.ensures.ok) c.in-Ok-read.ensures.keeps

pub returns-in-Err-NotAScript-clause-not_read : goal.returns-in-Err-NotAScript-clause-not_read
returns-in-Err-NotAScript-clause-not_read g c = λ _. (
  Keeps-refl _,
  no_script_bytes c.args.bytes.now (view c.in-Ok.value) c.in-Ok.ensures.ok.1
      (c.in-Err-NotAScript.ensures.not_a_script (ap Err c.in-Err-NotAScript.field-0-is)),
)

pub returns-clause-ok : goal.returns-clause-ok
returns-clause-ok g c =
    ran_bytes c.args.workers c.args.bytes.now (script_view c.in-Ok-read.script) _ _ _ _ _ (
      c.in-Ok.ensures.ok.0,
      view c.in-Ok.value,
      c.in-Ok.ensures.ok.1,
      c.in-Ok-read.ensures.ok,
    )
    (ap (λ w. reached w []) c.in-Ok-of_edition.ensures.ok) (ap (λ ss. map step_view ss) c.as_slice.ensures.value)
    c.in_ok-run_steps.ensures.ok

pub returns-in_err-run_steps-clause-err : goal.returns-in_err-run_steps-clause-err
returns-in_err-run_steps-clause-err g c =
    let p = err_from_is_err_and c.from_residual.result c.from_residual.ensures.1 in
    rw p.1 (stopped_bytes c.args.workers c.args.bytes.now (script_view c.in-Ok-read.script) _ _ _ _ (
      c.in-Ok.ensures.ok.0,
      view c.in-Ok.value,
      c.in-Ok.ensures.ok.1,
      c.in-Ok-read.ensures.ok,
    )
    (ap (λ w. reached w []) c.in-Ok-of_edition.ensures.ok) (ap (λ ss. map step_view ss) c.as_slice.ensures.value)
    c.in_err-run_steps.ensures.err)
