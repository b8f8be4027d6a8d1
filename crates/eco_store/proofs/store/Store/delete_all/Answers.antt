use Rattle.eco_store.proofs.store.Store.delete_all.Goals.{in-Ok, in_default}
use Rattle.eco_store.proofs.store.Store.delete_all.Goals as goal

pub carry_out-requires-clause-laid : goal.carry_out-requires-clause-laid
carry_out-requires-clause-laid c = rw c.expect.ensures c.plan_changes-planned.ensures.plans.laid

pub forget-requires : goal.forget-requires
forget-requires c = elim c.match-planned.branch [
  | in-Ok w ↦ rw w.self-inside-is w.carry_out.ensures.laid
  | in_default w ↦ rw w.self-inside-is c.plan_changes-planned.ensures.plans.laid
]
