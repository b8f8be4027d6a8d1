use Rattle.std.proofs.Common.{◌≡◌}
use Rattle.examples.specs.Mixing.{mixed}
use Rattle.examples.proofs.bench.heavy.mixed.Given as goal

abbrev pub invariant-loop : goal.invariant-loop
invariant-loop l = l.number ≡ mixed l.counter l.fn.seed
