-- The cleanup's answer, seen as a delete of the world.
use Rattle.eco_world.proofs.Common.{◌≡◌, true, false, true≢false, ◌↔◌, List, [], ◌∷◌, IsTrue, Result, sym, subst, is_some, inl, inr, find}
use Rattle.eco_world.proofs.Common.{Entity, DELETE, Id, Refusal, is_builtin, is_builtins, Deletes, Ends, HoldsOn, IsDoomed, DeletesOne, DeletesWith, may_delete}
use Rattle.eco_world.proofs.Common.{may_delete_with, Least, root, next, entity_cmp, entity_eq, has_item, id_cmp, Meets, WorldState, has, is_alive, entities}
use Rattle.eco_world.proofs.Common.{record_of, or_left, or_parts, entry_of, has_in, least, entity_eq_is, entity_eq_itself, own_from_passed, passed_from_own}
use Rattle.eco_world.proofs.Common.{holders}
use Rattle.eco_ids.proofs.DeletesEnd.{deletes_end}
use Rattle.eco_ids.proofs.Listable.{decide_bool}
use Rattle.eco_ids.proofs.LivingLists.{has_alive}
use Rattle.eco_world.proofs.Steps.{meets_as}

-- the same roots in other words take the same
doomed_alike : (w : WorldState) (P Q : Entity → Type 0) (members : List Entity) → ((e : Entity) → P e ↔ Q e) → IsDoomed w P members
    → IsDoomed w Q members
doomed_alike w P Q members same d = record {
  ascending = d.ascending;
  exact = λ e. (
    λ h. least (Least Q (HoldsOn w DELETE)) (λ a p. root ((same a).0 p)) (λ a b member holds. next member holds) ((d.exact e).0 h),
    λ h. (d.exact e).1 (least (Least P (HoldsOn w DELETE)) (λ a q. root ((same a).1 q)) (λ a b member holds. next member holds) h),
  );
}

module _ (w new : WorldState) (r : Result (Unit {0}) Refusal) (roots : List Entity) (IsRoot : Entity → Type 0)
    (same : (e : Entity) → IsTrue (has_item entity_cmp roots e) ↔ IsRoot e) (alive : (e : Entity) → IsRoot e → IsTrue (is_alive w e))
    (ends : (members : List Entity) → IsDoomed w (λ e. IsTrue (has_item entity_cmp roots e)) members → Meets (Ends w members) true w r new) where
  deleted : Meets (Deletes w IsRoot) true w r new
  deleted =
      let known = deletes_end w (λ e. IsTrue (has_item entity_cmp roots e)) (λ e. decide_bool (has_item entity_cmp roots e)) (λ e h. alive e ((same e).0 h)) in
      let members = known.2.0 in
      meets_as (Ends w members) (Deletes w IsRoot) true true w new w new r (λ wants is. (wants, is))
      (λ end. (members, doomed_alike w _ IsRoot members same known.2.1, end)) (ends members known.2.1)

-- e alone
pub only : (e x : Entity) → IsTrue (has_item entity_cmp (e ∷ []) x) ↔ (x ≡ e)
only e x = (
  λ h. elim (or_parts (entity_eq e x) false h) as (λ _. x ≡ e) [ inl is ↦ sym (entity_eq_is e x is) | inr none ↦ absurd (true≢false (sym none)) ],
  λ is. subst (λ y. IsTrue (has_item entity_cmp (e ∷ []) y)) (sym is) (or_left (entity_eq e e) false (entity_eq_itself e)),
)

-- the call with one root deletes it
pub one_deleted : (w new : WorldState) (e : Entity) (r : Result (Unit {0}) Refusal) → is_alive w e ≡ true → is_builtin w e ≡ false
    → ((members : List Entity) → IsDoomed w (λ x. IsTrue (has_item entity_cmp (e ∷ []) x)) members → Meets (Ends w members) true w r new)
    → Meets (DeletesOne w e) (may_delete w e) w r new
one_deleted w new e r lives ordinary ends =
    rw (lives, ordinary) (deleted w new r (e ∷ []) (λ x. x ≡ e) (only e) (λ x is. subst (λ y. IsTrue (is_alive w y)) (sym is) lives) ends)

-- those whom a search for the id finds have it
pub holders_have : (w : WorldState) (i : Id) (e : Entity) → IsTrue (has_item entity_cmp (holders w i) e) ↔ IsTrue (has w e i)
holders_have w i e = (
  λ h. let own = own_from_passed (λ r. is_some (find id_cmp i r.held)) (entities w) e h in subst (λ o. IsTrue (has_in o i)) (sym own.1) own.2,
  λ h. let own = entry_of (record_of w e) i h in
      passed_from_own (λ r. is_some (find id_cmp i r.held)) (entities w) e (own.0, own.2, subst (λ o. IsTrue (has_in o i)) own.2 h),
)

-- the call with all who have the id as roots deletes them
pub with_deleted : (w new : WorldState) (i : Id) (r : Result (Unit {0}) Refusal) (roots : List Entity) → roots ≡ holders w i → is_builtins w i ≡ false
    → ((members : List Entity) → IsDoomed w (λ x. IsTrue (has_item entity_cmp roots x)) members → Meets (Ends w members) true w r new)
    → Meets (DeletesWith w i) (may_delete_with w i) w r new
with_deleted w new i r roots all ordinary ends =
    rw ordinary (deleted w new r roots (λ x. IsTrue (has w x i)) (rw all (holders_have w i)) (λ x. has_alive w x i) ends)
