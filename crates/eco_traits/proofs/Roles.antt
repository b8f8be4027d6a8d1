-- Policies and roles, read off the ids of entities.
use Rattle.eco_traits.proofs.CleanupCommon.{◌≡◌, Bool, cond, ◌&&◌, ◌||◌, ◌↔◌, inl, inr, List, Option, Some, None, is_some, option_map, unwrap_or}
use Rattle.eco_traits.proofs.CleanupCommon.{sym, ap, ◌∙◌, subst, true≢false, IsTrue, Entity, ON_DELETE, ON_DELETE_TARGET, REMOVE, DELETE, PANIC, Id, One, Two}
use Rattle.eco_traits.proofs.CleanupCommon.{Names, policy, entity_eq, has_item, id_cmp, names_entity, WorldState, Record, has, both, first, second, keys_find}
use Rattle.eco_traits.proofs.CleanupCommon.{or_parts, or_right, has_in, entity_eq_is, entity_eq_itself, record_ids, chosen, names_on}
use Rattle.std.proofs.lemmas.Bool.{or_left}
use Rattle.eco_ids.specs.World.{record_of}

-- ---- what an entity has

has_of_some : (o : Option Record) (i : Id) (ids : List Id) → Some ids ≡ option_map record_ids o → has_in o i ≡ has_item id_cmp ids i
has_of_some None i ids e = absurd (true≢false (ap is_some e))
has_of_some (Some d) i ids e = keys_find d.held i ∙ ap (λ xs. has_item id_cmp xs i) (sym (ap (λ o. unwrap_or o ids) e))

chosen_alike : (f g : Id → Bool) (c : Entity) → ((i : Id) → f i ≡ g i) → chosen f c ≡ chosen g c
chosen_alike f g c alike = λ t. cond (alike (Two c DELETE) t) DELETE (cond (alike (Two c PANIC) t) PANIC REMOVE)

-- the policy of an entity that has these ids
pub policy_of_ids : (w : WorldState) (e c : Entity) (ids : List Id) → Some ids ≡ option_map record_ids (record_of w e)
    → chosen (has_item id_cmp ids) c ≡ policy w e c
policy_of_ids w e c ids own = chosen_alike (has_item id_cmp ids) (has w e) c (λ i. sym (has_of_some (record_of w e) i ids own))

-- ---- roles

pub tested : (a b : Entity) → a ≡ b → IsTrue (entity_eq a b)
tested a b e = subst (λ x. IsTrue (entity_eq a x)) e (entity_eq_itself a)

pair_tested : (a b c d : Entity) → IsTrue (entity_eq a b && entity_eq c d) ↔ ((a ≡ b) × (c ≡ d))
pair_tested a b c d = (λ h. (entity_eq_is a b (first _ _ h), entity_eq_is c d (second _ _ h)), λ h. both _ _ (tested a b h.0) (tested c d h.1))

abbrev own_role : WorldState → Entity → Entity → Entity → Bool
own_role w action member r = entity_eq r member && entity_eq (policy w r ON_DELETE) action

abbrev target_role : WorldState → Entity → Entity → Entity → Entity → Bool
target_role w action member r t = entity_eq t member && entity_eq (policy w r ON_DELETE_TARGET) action

pub names_on_exact : (w : WorldState) (action member : Entity) (i : Id) → IsTrue (names_on w action member i) ↔ Names w action i member
names_on_exact w action member (One x) = pair_tested x member (policy w x ON_DELETE) action
names_on_exact w action member (Two r t) =
    let own = pair_tested r member (policy w r ON_DELETE) action in
    let target = pair_tested t member (policy w r ON_DELETE_TARGET) action in (
      λ h. elim (or_parts (own_role w action member r) (target_role w action member r t) h) as (λ _. Names w action (Two r t) member)
          [ inl k ↦ inl (own.0 k) | inr k ↦ inr (target.0 k) ],
      λ h. elim h as (λ _. IsTrue (names_on w action member (Two r t))) [ inl k ↦ or_left _ _ (own.1 k) | inr k ↦ or_right _ _ (target.1 k) ],
    )

-- an id that names the member in a role names it
pub names_on_names : (w : WorldState) (action member : Entity) (i : Id) → IsTrue (names_on w action member i) → IsTrue (names_entity i member)
names_on_names w action member (One x) h = first (entity_eq x member) (entity_eq (policy w x ON_DELETE) action) h
names_on_names w action member (Two r t) h =
    elim (or_parts (own_role w action member r) (target_role w action member r t) h) as (λ _. IsTrue (entity_eq r member || entity_eq t member)) [
      | inl k ↦ or_left (entity_eq r member) (entity_eq t member) (first (entity_eq r member) (entity_eq (policy w r ON_DELETE) action) k)
      | inr k ↦ or_right (entity_eq r member) (entity_eq t member) (first (entity_eq t member) (entity_eq (policy w r ON_DELETE_TARGET) action) k)
    ]
