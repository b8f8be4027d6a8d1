use Rattle.eco_store.proofs.store.Store.retype_all.Goals.{in-Ok, in_default}
use Rattle.eco_store.proofs.store.Store.retype_all.Goals as goal

pub forget-requires : goal.forget-requires
forget-requires c = elim c.match-planned.branch [
  | in-Ok w ↦ rw w.self-inside-is w.make_moves.ensures.laid
  | in_default w ↦ rw w.self-inside-is c.plan_moves-planned.ensures.plans.laid
]
