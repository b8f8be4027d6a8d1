use Rattle.eco_steps.proofs.DevicesCommon.{arith, refl, inl, inr, ◌+◌, ◌∙◌, ap, Consumes-nil}
use Rattle.eco_steps.proofs.Devices.{Consumes-end, Consumes-more}
use Rattle.eco_steps.proofs.transfer.read_all.Goals as goal

pub loop-made-init : goal.loop-made-init
loop-made-init g c = record { came = rw c.new-bytes.ensures.items (Consumes-nil _); called = omega arith; counted = refl }

pub loop-made-preserved : goal.loop-made-preserved
loop-made-preserved g c = record {
  came = Consumes-more _ _ _ _ _ _ c.in-Ok-extend_from_slice.ensures.items c.loop-made.invariant.came c.in-Ok.ensures.consumes;
  called = omega (arith, c.loop-made.invariant.called, c.in-Ok.ensures.called);
  counted = c.in-Ok.ensures.ok ∙ c.loop-made.invariant.counted;
}

pub returns-in-Ok-eq0-clause-whole : goal.returns-in-Ok-eq0-clause-whole
returns-in-Ok-eq0-clause-whole g c =
    Consumes-end _ _ _ _ _ c.in-Ok-eq0.field-0 c.in-Ok-eq0.field-0-test c.loop-made.invariant.came c.in-Ok-eq0.ensures.consumes

pub returns-in-Ok-eq0-clause-bounded : goal.returns-in-Ok-eq0-clause-bounded
returns-in-Ok-eq0-clause-bounded g c = omega (arith, c.loop-made.invariant.called, c.in-Ok-eq0.ensures.called, c.loop-made-test.true)

pub returns-in-Err-clause-device : goal.returns-in-Err-clause-device
returns-in-Err-clause-device g c = λ _. inl (c.in-Err.ensures.err ∙ ap (λ n. n + 1) c.loop-made.invariant.counted)

pub returns-in-Err-clause-bounded : goal.returns-in-Err-clause-bounded
returns-in-Err-clause-bounded g c = omega (arith, c.loop-made.invariant.called, c.in-Err.ensures.called, c.loop-made-test.true)

pub returns-clause-device : goal.returns-clause-device
returns-clause-device g c = λ _. inr (omega (arith, c.loop-made.invariant.called, c.loop-made-test.false, c.loop-made.auto._made-end))

pub read-requires-clause-callable : goal.read-requires-clause-callable
read-requires-clause-callable g c = omega (arith, c.loop-made.invariant.called, c.loop-made-test.true, c.requires.callable)
