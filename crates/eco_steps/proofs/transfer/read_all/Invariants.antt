use Rattle.eco_steps.proofs.DevicesCommon.{◌≡◌, ◌+◌, Consumes}
use Rattle.eco_steps.proofs.transfer.read_all.Given as goal

-- the bytes so far came from the reader, and no call has failed
abbrev pub invariant-loop-made : goal.invariant-loop-made
invariant-loop-made g l = record {
  came : Consumes (g.R.ScriptReader.remaining l.initial.reader) (g.R.ScriptReader.remaining l.reader) l.bytes.items;
  called : g.R.ScriptReader.calls l.reader ≡ g.R.ScriptReader.calls l.initial.reader + l._made;
  counted : g.R.ScriptReader.failures l.reader ≡ g.R.ScriptReader.failures l.initial.reader;
}
