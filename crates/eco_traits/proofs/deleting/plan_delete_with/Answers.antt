use Rattle.eco_traits.proofs.CleanupCommon.{◌≡◌, Bool, List, map, IfOk, IsTrue, sym, ap, ◌∙◌, subst, IsDoomed, entity_cmp, has_item, Entity, AreStarts}
use Rattle.eco_traits.proofs.CleanupCommon.{taken_among, AnswersDelete, IsDeletePlan, entities_with, world_of, Falling}
use Rattle.eco_traits.proofs.CleanupNoted.{tables_start}
use Rattle.eco_traits.proofs.Rooted.{tables_taken}
use Rattle.eco_traits.proofs.deleting.plan_delete_with.Goals.{After-plan}
use Rattle.eco_traits.proofs.deleting.plan_delete_with.Goals as goal

pub plan-requires-clause-starts : goal.plan-requires-clause-starts
plan-requires-clause-starts c = subst AreStarts (sym (c.deref-2.ensures.value ∙ c.in_ok-starts.ensures)) (tables_start c.deref.result.now)

-- who dies by the tables that are found is who has an id that the pattern matches
taken : (c : goal.After-plan) → has_item entity_cmp (taken_among c.args.places.now.slots c.deref-2.result.now)
    ≡ has_item entity_cmp (entities_with c.args.places.now.entities c.args.pattern)
taken c =
    ap (λ nodes. has_item entity_cmp (taken_among c.args.places.now.slots nodes))
    (c.deref-2.ensures.value ∙ c.in_ok-starts.ensures ∙ ap (map Falling) c.deref.ensures)
    ∙ (λ t e. tables_taken c.args.places.now.entities c.args.places.now.slots c.are_shown.ensures c.args.pattern c.in_ok-slots.slots.items
    (rw c.archetypes.ensures at c.in_ok-slots.ensures.all) e t)

pub returns-clause-planned : goal.returns-clause-planned
returns-clause-planned c =
    subst (λ (test : Entity → Bool). IfOk c.plan.result
    (λ p. IsDeletePlan c.args.places.now.entities (λ x. IsTrue (test x)) p.dead.items p.changes.items))
    (taken (goal.at.returns-clause-planned c).After-plan) c.plan.ensures.planned

pub returns-clause-judged : goal.returns-clause-judged
returns-clause-judged c =
    let w = world_of c.args.places.now.entities in
    subst (λ (test : Entity → Bool). (members : List Entity) → IsDoomed w (λ x. IsTrue (test x)) members → AnswersDelete w members c.plan.result)
    (taken (goal.at.returns-clause-judged c).After-plan) c.plan.ensures.judged
