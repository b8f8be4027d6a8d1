use Rattle.eco_steps.proofs.DevicesCommon.{rules, take_rest}
use Rattle.std.proofs.lemmas.Result.{err_from_is_err_and}
use Rattle.eco_steps.proofs.Devices.{Appends-beginning, Appends-take_more}
use Rattle.eco_steps.proofs.transfer.write_all.Goals as goal

pub returns-in_err-n-clause-err : goal.returns-in_err-n-clause-err
returns-in_err-n-clause-err g c =
    let p = err_from_is_err_and c.from_residual.result c.from_residual.ensures.1 in
    rw p.1 (Appends-beginning c.loop-done.done _ _ _ _ c.loop-done.invariant.written c.in_err-n.ensures.keeps)

pub loop-done-preserved : goal.loop-done-preserved
loop-done-preserved g c = record {
  within = search rules;
  written = Appends-take_more c.loop-done.done c.in_ok-n.n _ _ _ _ c.loop-done.invariant.written (rw take_rest at c.in_ok-n.ensures.appends);
  counted = search rules;
}
