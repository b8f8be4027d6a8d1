use Rattle.eco_checker.proofs.Common.{inl, inr, view}
use Rattle.eco_checker.proofs.Bytes.{no_script_bytes, no_text_bytes, script_bytes}
use Rattle.eco_checker.proofs.Lines.{ok_all}
use Rattle.eco_checker.proofs.check.check_bytes.Goals as goal

pub returns-in-Ok-clause-script : goal.returns-in-Ok-clause-script
returns-in-Ok-clause-script c =
    let (utf8, read) = c.in-Ok.ensures.ok in
    ok_all c.check_value.result (λ is of e. script_bytes c.args.bytes.now (view c.in-Ok.value) utf8 read (of e)) c.check_value.ensures.script

pub returns-in-Ok-clause-none : goal.returns-in-Ok-clause-none
returns-in-Ok-clause-none c =
    ok_all c.check_value.result (λ is of e. no_script_bytes c.args.bytes.now (view c.in-Ok.value) c.in-Ok.ensures.ok.1 (of e)) c.check_value.ensures.none

pub returns-in-Ok-clause-faults : goal.returns-in-Ok-clause-faults
returns-in-Ok-clause-faults c =
    let read = c.in-Ok.ensures.ok.1 in
    ok_all c.check_value.result (λ is of e. let (told, are, same) = of e in (told, inr (view c.in-Ok.value, read, are), same)) c.check_value.ensures.faults

pub returns-in_ok-push_json_fault-in-Err-2-clause-none : goal.returns-in_ok-push_json_fault-in-Err-2-clause-none
returns-in_ok-push_json_fault-in-Err-2-clause-none c = λ _.
    no_text_bytes c.args.bytes.now (c.in-Err.ensures.err (λ m. let yes = c.is_memory.ensures.1 m in cc (yes, c.if-is_memory.false)))

pub returns-in_ok-push_json_fault-in-Err-2-clause-faults : goal.returns-in_ok-push_json_fault-in-Err-2-clause-faults
returns-in_ok-push_json_fault-in-Err-2-clause-faults c = λ _.
    let (told, un, same) = c.in_ok-push_json_fault-in-Err-2.ensures in
    (told, inl (c.in-Err.ensures.err (λ m. let yes = c.is_memory.ensures.1 m in cc (yes, c.if-is_memory.false)), un), same)
