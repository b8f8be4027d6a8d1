use Rattle.eco_store.proofs.AnswersCommon.{◌+◌}
use Rattle.eco_store.specs.Ranking.{AscendTo}
use Rattle.eco_store.proofs.standing.run_ascends.Given as goal

abbrev pub invariant-loop-step : goal.invariant-loop-step
invariant-loop-step l = AscendTo l.entities l.place → AscendTo l.entities (l.place + l.step)
