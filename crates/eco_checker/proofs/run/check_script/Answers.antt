use Rattle.eco_checker.proofs.Common.{◌≡◌, ◌∙◌, ◌++◌, ap}
use Rattle.eco_checker.proofs.Bytes.{none_to_end, script_to_end, stopped_to_end, told_to_end}
use Rattle.eco_checker.specs.Told.{script_line}
use Rattle.eco_checker.proofs.run.check_script.Goals as goal

pub returns-in-Ok-write_all-clause-script : goal.returns-in-Ok-write_all-clause-script
returns-in-Ok-write_all-clause-script g c = λ _.
    script_to_end _ _ c.in-Ok.bytes.items c.in-Ok.ensures.whole c.in-Ok.ensures.ended
    (rw c.as_slice.ensures.value at (c.in-Ok-check_bytes.ensures.script c.if-is_script.true))

pub returns-in-Ok-write_all-clause-line : goal.returns-in-Ok-write_all-clause-line
returns-in-Ok-write_all-clause-line g c = λ _.
    let same : c.as_bytes.result.now ≡ script_line =
    c.as_bytes.ensures.value ∙ c.as_str.ensures.value ∙ c.in-Ok-check_bytes.ensures.line c.if-is_script.true
    ∙ ap (λ b. b ++ script_line) c.new-text.ensures.bytes in
    rw same at c.in-Ok-write_all.ensures.ok

pub returns-in-Ok-2-clause-none : goal.returns-in-Ok-2-clause-none
returns-in-Ok-2-clause-none g c = λ _.
    none_to_end _ _ c.in-Ok.bytes.items c.in-Ok.ensures.whole c.in-Ok.ensures.ended
    (rw c.as_slice.ensures.value at (c.in-Ok-check_bytes.ensures.none c.if-is_script.false))

pub returns-in-Ok-2-clause-faults : goal.returns-in-Ok-2-clause-faults
returns-in-Ok-2-clause-faults g c = λ _.
    let (told, are, is) = c.in-Ok-check_bytes.ensures.faults c.if-is_script.false in
    let same : c.as_bytes.result.now ≡ told =
    c.as_bytes.ensures.value ∙ c.as_str.ensures.value ∙ is ∙ ap (λ b. b ++ told) c.new-text.ensures.bytes in (
      told,
      told_to_end _ _ c.in-Ok.bytes.items told c.in-Ok.ensures.whole c.in-Ok.ensures.ended (rw c.as_slice.ensures.value at are),
      rw (← same) c.in-Ok-2.ensures.ok,
    )

pub returns-clause-stopped : goal.returns-clause-stopped
returns-clause-stopped g c = λ _.
    stopped_to_end _ _ c.in-Ok.bytes.items c.in-Ok.ensures.whole c.in-Ok.ensures.ended _ c.in-Ok-check_bytes.is_script
    (rw c.as_slice.ensures.value at c.in-Ok-check_bytes.ensures.script) (rw c.as_slice.ensures.value at c.in-Ok-check_bytes.ensures.none)
    (rw c.new-text.ensures.bytes at c.in-Ok-check_bytes.ensures.line)
    (rw (c.as_slice.ensures.value, c.new-text.ensures.bytes) at c.in-Ok-check_bytes.ensures.faults) _ _
    (rw (c.as_bytes.ensures.value, c.as_str.ensures.value) at c.in-Err.ensures.err)
