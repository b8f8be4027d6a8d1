use Rattle.eco_workers.specs.Rounds.{IsSeatOf}
use Rattle.tests_world.proofs.below.rounds.claim_all.Given as goal

abbrev pub invariant-loop : goal.invariant-loop
invariant-loop l = IsSeatOf l.round l.seat
