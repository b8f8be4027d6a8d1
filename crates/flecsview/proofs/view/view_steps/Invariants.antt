use Rattle.std.proofs.Common.{◌≡◌}
use Rattle.flecsview.proofs.view.view_steps.Given as goal

-- the edition of the world is that of the beginning
abbrev pub invariant-loop-number : goal.invariant-loop-number
invariant-loop-number g l = l.world.edition ≡ l.initial.world.edition
