use Rattle.eco_world.proofs.Common.{◌≡◌, first_entities}
use Rattle.eco_world.proofs.builtins.builtin_store.Given as goal

abbrev pub invariant-loop-number : goal.invariant-loop-number
invariant-loop-number l = l.store.entities ≡ first_entities l.limit l.number
