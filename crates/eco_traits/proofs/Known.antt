-- The target of each pair that an entity has is among the known targets.
use Rattle.eco_traits.proofs.Common.{common_steps, arith, ◌≡◌, ℕ, zero, suc, true, false, cond, ◌||◌, List, [], ◌∷◌, slice_get, Some, is_some}
use Rattle.eco_traits.proofs.Common.{IsTrue, refl, sym, ◌∙◌, subst, true≢false, find, Entity, Id, Two, Value, id_cmp, id_eq, entity_cmp, entity_eq}
use Rattle.eco_traits.proofs.Common.{has_item, WorldState, Record, has, or_left, or_right, id_eq_is, has_in, entity_eq_itself, list_any}
use Rattle.eco_ids.specs.Indices.{IndexState, Retired, Free, Living, record_in}
use Rattle.eco_traits.proofs.Members.{has_front, has_back, list_any-derived}
use Rattle.eco_traits.specs.Known.{target_of, targets_in, targets_from, all_targets}
use Rattle.eco_ids.specs.contracts.entity.EntityPartialEq.TheImpl as entity_impl

held_target : (i : Id) (held : List (Id × Value)) → IsTrue (is_some (find id_cmp i held)) → IsTrue (has_item entity_cmp (targets_in held) (target_of i))
held_target i [] h = absurd (true≢false (sym h))
held_target i (p ∷ held) h =
    elim (id_eq i p.0) as (λ b. id_eq i p.0 ≡ b → IsTrue (is_some (cond b (Some p.1) (find id_cmp i held)))
    → IsTrue (entity_eq (target_of p.0) (target_of i) || has_item entity_cmp (targets_in held) (target_of i))) [
      | true ↦ λ e k. or_left _ _ (subst (λ j. IsTrue (entity_eq (target_of j) (target_of i))) (id_eq_is i p.0 e) (entity_eq_itself (target_of i)))
      | false ↦ λ e k. or_right _ _ (held_target i held k)
    ] refl h

known_in : (states : List (IndexState Record)) (n g : ℕ) (i : Id) → IsTrue (has_in (record_in (slice_get states n) g) i)
    → IsTrue (has_item entity_cmp (targets_from states) (target_of i))
known_in [] n g i h = absurd (true≢false (sym h))
known_in (Retired ∷ rest) zero g i h = absurd (true≢false (sym h))
known_in (Free f ∷ rest) zero g i h = absurd (true≢false (sym h))
known_in (Living f r ∷ rest) zero g i h = grind (arith, common_steps, has_in, has_front, held_target)
known_in (Retired ∷ rest) (suc n) g i h = known_in rest n g i h
known_in (Free f ∷ rest) (suc n) g i h = known_in rest n g i h
known_in (Living f r ∷ rest) (suc n) g i h = has_back entity_cmp (targets_in r.held) (targets_from rest) (target_of i) (known_in rest n g i h)

-- the target of a pair that an entity has is among them
pub target_is_known : (w : WorldState) (r a b : Entity) → IsTrue (has w a (Two r b)) → IsTrue (list_any ((entity_impl.eq-value).it b) (all_targets w))
target_is_known w r a b h = list_any-derived (all_targets w) b ∙ known_in w.indices a.index a.generation (Two r b) h
