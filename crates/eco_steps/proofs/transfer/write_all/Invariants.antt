use Rattle.eco_steps.proofs.DevicesCommon.{◌≡◌, ◌≤◌, ◌-◌, length, take, Appends}
use Rattle.eco_steps.proofs.transfer.write_all.Given as goal

-- the first bytes were written, and no call has failed
abbrev pub invariant-loop-done : goal.invariant-loop-done
invariant-loop-done g l = record {
  within : l.done ≤ length l.bytes;
  written : Appends (g.W.ScriptWriter.held l.initial.writer) (g.W.ScriptWriter.held l.writer) (take l.done l.bytes);
  counted : g.W.ScriptWriter.failures l.writer ≡ g.W.ScriptWriter.failures l.initial.writer;
}

abbrev pub decreases-loop-done : goal.decreases-loop-done
decreases-loop-done g l = length l.bytes - l.done
