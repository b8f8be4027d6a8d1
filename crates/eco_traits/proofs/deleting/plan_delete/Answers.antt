use Rattle.eco_traits.proofs.CleanupCommon.{List, IfOk, IsTrue, sym, ap, ◌∙◌, subst, IsDoomed, entity_cmp, has_item, Entity, AreStarts, taken_among}
use Rattle.eco_traits.proofs.CleanupCommon.{AnswersDelete, IsDeletePlan, world_of}
use Rattle.eco_traits.proofs.Deaths.{taken_roots}
use Rattle.eco_traits.proofs.CleanupNoted.{roots_start}
use Rattle.eco_traits.proofs.deleting.plan_delete.Goals as goal

pub plan-requires-clause-starts : goal.plan-requires-clause-starts
plan-requires-clause-starts c = subst AreStarts (sym (c.deref.ensures.value ∙ c.in_ok-starts.ensures)) (roots_start c.args.roots.now)

pub returns-clause-planned : goal.returns-clause-planned
returns-clause-planned c =
    let slots = c.args.places.now.slots in
    subst (λ es. IfOk c.plan.result (λ p. IsDeletePlan c.args.places.now.entities (λ x. IsTrue (has_item entity_cmp es x)) p.dead.items p.changes.items))
    (ap (taken_among slots) (c.deref.ensures.value ∙ c.in_ok-starts.ensures) ∙ taken_roots slots c.args.roots.now) c.plan.ensures.planned

pub returns-clause-judged : goal.returns-clause-judged
returns-clause-judged c =
    let slots = c.args.places.now.slots in
    let w = world_of c.args.places.now.entities in
    subst (λ es. (members : List Entity) → IsDoomed w (λ x. IsTrue (has_item entity_cmp es x)) members → AnswersDelete w members c.plan.result)
    (ap (taken_among slots) (c.deref.ensures.value ∙ c.in_ok-starts.ensures) ∙ taken_roots slots c.args.roots.now) c.plan.ensures.judged
