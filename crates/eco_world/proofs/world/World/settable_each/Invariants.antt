use Rattle.eco_world.proofs.Common.{◌≡◌, ℕ, ◌<◌, None, One, get_or, length}
use Rattle.eco_ids.specs.declared.entity.TheConstants.{CHILD_OF}
use Rattle.eco_stages.specs.declared.recorded.TheConstants.{MOST_IN_TURN}
use Rattle.eco_world.specs.Setting.{fields_at}
use Rattle.eco_world.proofs.world.World.settable_each.Given as goal

abbrev pub invariant-loop-k : goal.invariant-loop-k
invariant-loop-k l = record {
  told : (j : ℕ) → j < l.k → get_or l.known j None ≡ fields_at l.self (get_or l.ids j (One CHILD_OF));
  long : length l.known ≡ MOST_IN_TURN;
}
