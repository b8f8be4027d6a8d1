use Rattle.eco_script.proofs.Common.{◌≡◌, [], string_bytes, step_view, reached}
use Rattle.eco_script.proofs.Runs.{Gathered}
use Rattle.eco_script.proofs.run.run_steps.Given as goal

-- the text of the steps so far was written, but for what is gathered, the edition is that of the beginning, and no call has failed
abbrev pub invariant-loop-step : goal.invariant-loop-step
invariant-loop-step g l = record {
  ran : Gathered l.workers step_view l.steps l.step-index (reached l.initial.world []) (reached l.world l.systems) (g.W.ScriptWriter.held l.initial.writer)
      (g.W.ScriptWriter.held l.writer) (string_bytes l.text);
  edition : l.world.edition ≡ l.initial.world.edition;
  counted : g.W.ScriptWriter.failures l.writer ≡ g.W.ScriptWriter.failures l.initial.writer;
}
