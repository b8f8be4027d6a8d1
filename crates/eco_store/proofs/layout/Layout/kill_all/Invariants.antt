use Rattle.eco_store.proofs.Common.{◌≡◌, ◌-◌, length, take, entity_cmp, has_item, after_deaths, seen, LosesRows}
use Rattle.eco_store.proofs.layout.Layout.kill_all.Given as goal

abbrev pub invariant-loop-done : goal.invariant-loop-done
invariant-loop-done l = record {
  loses : LosesRows l.initial.self l.self;
  seen : seen l.self ≡ after_deaths (seen l.initial.self) (has_item entity_cmp (take l.done l.dead));
}

abbrev pub decreases-loop-done : goal.decreases-loop-done
decreases-loop-done l = length l.dead - l.done
