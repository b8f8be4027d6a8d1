use Rattle.eco_traits.proofs.CleanupCommon.{IsTrue, ◌∙◌, names_any, entity_cmp, has_item, entities_with}
use Rattle.eco_traits.proofs.Planned.{as_listed}
use Rattle.eco_traits.proofs.deleting.delete_with.Goals as goal

pub carry_out-requires : goal.carry_out-requires
carry_out-requires g c =
    (names_any c.in_ok-plan.plan.dead.items, rw (c.deref.ensures.value, c.deref-2.ensures.value) c.in_ok-plan.ensures.planned.taken)

pub returns : goal.returns
returns g c =
    let v = g.S.Population.entities c.args.store.now in
    let plan = c.in_ok-plan.plan in
    let planned = c.in_ok-plan.ensures.planned in
    λ members list. (
      (rw (c.deref.ensures.value, c.deref-2.ensures.value) at c.in_ok-carry_out.ensures.ok) (names_any plan.dead.items) planned.taken
          ∙ as_listed v (λ x. IsTrue (has_item entity_cmp (entities_with v c.args.pattern) x)) plan.dead.items plan.changes.items planned members list,
      c.in_ok-plan.ensures.judged members list,
    )
