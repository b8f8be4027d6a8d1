use Rattle.eco_traits.proofs.CleanupCommon.{IsTrue, ◌∙◌, subst, IsDoomed, names_any, entity_cmp, has_item, world_of}
use Rattle.eco_traits.proofs.OnlyHeld.{listed_one, none_forbids}
use Rattle.eco_traits.proofs.Planned.{as_listed}
use Rattle.eco_traits.proofs.deleting.delete.Goals as goal

pub take_from-requires-clause-only : goal.take_from-requires-clause-only
take_from-requires-clause-only g c = rw c.places.ensures at (rw c.in-Some.is at c.in_ok-only.ensures.only)

pub take_from-requires-clause-alive : goal.take_from-requires-clause-alive
take_from-requires-clause-alive g c = rw c.places.ensures at (rw c.in-Some.is at c.in_ok-only.ensures.alive)

pub carry_out-requires : goal.carry_out-requires
carry_out-requires g c =
    (names_any c.in_ok-plan.plan.dead.items, rw (c.deref.ensures.value, c.deref-2.ensures.value) c.in_ok-plan.ensures.planned.taken)

pub returns : goal.returns
returns g c =
    let plan = c.in_ok-plan.plan in
    let planned = c.in_ok-plan.ensures.planned in
    λ members list. (
      (rw (c.deref.ensures.value, c.deref-2.ensures.value) at c.in_ok-carry_out.ensures.ok) (names_any plan.dead.items) planned.taken
          ∙ as_listed (g.S.Population.entities c.args.store.now)
          (λ x. IsTrue (has_item entity_cmp c.args.roots.now x)) plan.dead.items plan.changes.items planned members list,
      c.in_ok-plan.ensures.judged members list,
    )

pub returns-in-Some : goal.returns-in-Some
returns-in-Some g c =
    let v = g.S.Population.entities c.args.store.now in
    let only = c.in-Some.only in
    let facts = rw c.places.ensures at (rw c.in-Some.is at c.in_ok-only.ensures.only) in
    λ members list.
    let own = subst (λ es. IsDoomed (world_of v) (λ x. IsTrue (has_item entity_cmp es x)) members) (rw c.in-Some.is at c.in_ok-only.ensures.root) list in
    (c.in_ok-take_from.ensures.ok ∙ listed_one v only facts members own, none_forbids v only facts members own)
