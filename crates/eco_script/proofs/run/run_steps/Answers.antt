use Rattle.eco_script.proofs.Common.{[], refl, ap, ◌+◌, ◌∙◌, Appends-nil, KeepsTo, step_view, reached}
use Rattle.std.proofs.lemmas.List.Elements.{All-get_or}
use Rattle.eco_script.proofs.Runs.{stopped_between, stopped_within, gathered_all, gathered_more, gathered_less}
use Rattle.eco_script.proofs.run.run_steps.Goals as goal

pub loop-step-init : goal.loop-step-init
loop-step-init g c = record {
  ran = ([], (c.new-text.ensures.bytes, ap (reached c.args.world.now) c.new-systems.ensures), Appends-nil _);
  edition = refl;
  counted = refl;
}

pub run_step-requires-clause-keeps : goal.run_step-requires-clause-keeps
run_step-requires-clause-keeps g c = λ κs lives.
    let here = All-get_or (λ step. KeepsTo c.args.world.now.edition (step_view step)) c.args.steps.now c.loop-step.step-index c.step-item.result
    c.loop-step-test.true c.requires.keeps in
    rw (c.loop-step.invariant.edition, c.step-item.is) here

pub returns-in_default-clause-err : goal.returns-in_default-clause-err
returns-in_default-clause-err g c =
    stopped_between c.args.workers step_view c.args.steps.now
    (record { refs = c.texts_are_read.ensures.reference; ids = c.texts_are_read.ensures.id; queries = c.texts_are_read.ensures.query })
    c.loop-step.step-index _ _ _ _ _ c.loop-step.invariant.ran

pub returns-in_default-write_many-clause-err : goal.returns-in_default-write_many-clause-err
returns-in_default-write_many-clause-err g c =
    let (lines, does, is) = c.in-Ok.ensures.lines in
    let more = gathered_more c.args.workers step_view c.args.steps.now c.loop-step.step-index c.step-item.result _ _ _ _ _ _ _ lines c.loop-step-test.true
    c.step-item.is c.loop-step.invariant.ran does is in
    stopped_within c.args.workers step_view c.args.steps.now
    (record { refs = c.texts_are_read.ensures.reference; ids = c.texts_are_read.ensures.id; queries = c.texts_are_read.ensures.query })
    (c.loop-step.step-index + 1) _ _ _ _ _ _ more
    c.in_default-write_many.ensures.err

pub loop-step-preserved : goal.loop-step-preserved
loop-step-preserved g c =
    let (lines, does, is) = c.in-Ok.ensures.lines in
    let more = gathered_more c.args.workers step_view c.args.steps.now c.loop-step.step-index c.step-item.result _ _ _ _ _ _ _ lines c.loop-step-test.true
    c.step-item.is c.loop-step.invariant.ran does is in
    let (part, parts, wrote) = c.in-Ok-write_many.ensures.ok in
    record {
      ran = gathered_less c.args.workers step_view c.args.steps.now (c.loop-step.step-index + 1) _ _ _ _ _ _ part _ parts more wrote;
      edition = c.in-Ok.ensures.edition ∙ c.loop-step.invariant.edition;
      counted = c.in-Ok-write_many.ensures.counts_none ∙ c.loop-step.invariant.counted;
    }

pub returns-clause-err : goal.returns-clause-err
returns-clause-err g c =
    stopped_within c.args.workers step_view c.args.steps.now
    (record { refs = c.texts_are_read.ensures.reference; ids = c.texts_are_read.ensures.id; queries = c.texts_are_read.ensures.query })
    c.loop-step.step-index _ _ _ _ _ _ c.loop-step.invariant.ran
    (rw (c.as_bytes.ensures.value, c.as_str.ensures.value) at c.in-Err.ensures.err)

pub returns-in_default-write_many-clause-device : goal.returns-in_default-write_many-clause-device
returns-in_default-write_many-clause-device g c = λ _.
    c.in_default-write_many.ensures.counts_one ∙ ap (λ n. n + 1) c.loop-step.invariant.counted

pub returns-in-Ok-write_all-clause-ok : goal.returns-in-Ok-write_all-clause-ok
returns-in-Ok-write_all-clause-ok g c =
    gathered_all c.args.workers step_view c.args.steps.now c.loop-step.step-index _ _ _ _ _ _ c.loop-step-test.false c.loop-step.invariant.ran
    (rw (c.as_bytes.ensures.value, c.as_str.ensures.value) at c.in-Ok-write_all.ensures.ok)

pub returns-clause-device : goal.returns-clause-device
returns-clause-device g c = λ _. c.in-Err.ensures.counts_one ∙ ap (λ n. n + 1) c.loop-step.invariant.counted
