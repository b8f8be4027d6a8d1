use Rattle.eco_world.proofs.Common.{◌++◌, ◌∷◌, [], ◌<◌, length, sym, ap, ◌∙◌, subst, append_assoc, Entity, Record, entities}
use Rattle.eco_world.proofs.Walk.{walk_some, walk_none}
use Rattle.eco_world.proofs.world.World.living.Goals.{in-Some+in_ok-push, in_default}
use Rattle.eco_world.proofs.world.World.living.Goals as goal

pub loop-index-preserved : goal.loop-index-preserved
loop-index-preserved c =
    let within : c.loop-index.index < length c.args.self.now.indices = subst (λ n. c.loop-index.index < n) c.high-index-end.ensures c.loop-index-test.true in
    elim c.match-entity_at.branch [
      | in-Some+in_ok-push w ↦
          let more = walk_some (λ (p : Entity × Record). p.0 ∷ []) (entities c.args.self.now) c.loop-index.index within w.in-Some.entity
          (sym w.in-Some.ensures) in
          rw (w.entities-is, w.in_ok-push.ensures.items)
          (append_assoc c.loop-index.entities.items (w.in-Some.entity ∷ []) _ ∙ ap (λ zs. c.loop-index.entities.items ++ zs) (sym more.2)
          ∙ c.loop-index.invariant)
      | in_default w ↦
          let same = walk_none (λ (p : Entity × Record). p.0 ∷ []) (entities c.args.self.now) c.loop-index.index within
          (sym c.entity_at.ensures ∙ w.in_default.is) in
          rw w.entities-is (ap (λ zs. c.loop-index.entities.items ++ zs) (sym same) ∙ c.loop-index.invariant)
    ]
