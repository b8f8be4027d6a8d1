-- The objection that is found is the least of all.
use Rattle.eco_traits.proofs.CleanupCommon.{◌≡◌, Bool, true, false, cond, not, ◌&&◌, ◌||◌, List, [], ◌∷◌, Option, Some, None, refl, sym, ap}
use Rattle.eco_traits.proofs.CleanupCommon.{IsTrue, Ordering, arith, and_right, IsTotalOrder, list_any, is_le, ordering_then, Entity, ON_DELETE, ON_DELETE_TARGET}
use Rattle.eco_traits.proofs.CleanupCommon.{PANIC, Id, One, Two, policy, entity_cmp, entity_eq, has_item, WorldState, both, first, second, entity_eq_is}
use Rattle.eco_traits.proofs.CleanupCommon.{entity_eq_itself, TableState, entities_of, table_in, counted, former, is_falling, taken_among, first_objection}
use Rattle.eco_traits.proofs.CleanupCommon.{first_outside, first_protected, named_first, objection, objection_at, objection_cmp, objection_of, protects, names_on}
use Rattle.eco_traits.proofs.CleanupCommon.{Node, Root, Falling, Named, Objection}
use Rattle.std.proofs.lemmas.Cmp.{on_total, then_total}
use Rattle.eco_ids.proofs.IdOrder.{entity_cmp_total}
use Rattle.eco_traits.proofs.CleanupNoted.{spread_right}
use Rattle.eco_traits.proofs.Firsts.{IsFirst, counted_first, first_alike, fold_first, former_first}

pub objection_cmp_total : IsTotalOrder objection_cmp
objection_cmp_total = then_total (on_total (λ o. o.holder) entity_cmp_total) (on_total (λ o. o.member) entity_cmp_total)

shared : (p m a b : Bool) → ((p || (m && a)) || (m && b)) ≡ (p || (m && (a || b)))
shared p m a b = grind arith

-- a test that is asked of each
spread_left : (m : Bool) {B : Type 0} (t : B → Bool) (bs : List B) → list_any (λ b. m && t b) bs ≡ (m && list_any t bs)
spread_left true t bs = refl
spread_left false t [] = refl
spread_left false t (b ∷ bs) = spread_left false t bs

module _ (w : WorldState) (dead : List Entity) where
  abbrev names_member : Id → Entity → Bool
  names_member i m = has_item entity_cmp dead m && names_on w PANIC m i

  abbrev in_role : Entity → Entity → Entity → Entity → Bool
  in_role e owner condition m = has_item entity_cmp dead m && (entity_eq e m && entity_eq (policy w owner condition) PANIC)

  role_first : (e owner condition : Entity) → IsFirst entity_cmp_total (in_role e owner condition) (counted e (protects w dead e owner condition))
  role_first e owner condition =
      counted_first entity_cmp_total (in_role e owner condition) e (protects w dead e owner condition)
      (ap (λ t. has_item entity_cmp dead e && (t && entity_eq (policy w owner condition) PANIC)) (entity_eq_itself e))
      (λ b h. sym (entity_eq_is e b (first (entity_eq e b) (entity_eq (policy w owner condition) PANIC)
      (second (has_item entity_cmp dead b) (entity_eq e b && entity_eq (policy w owner condition) PANIC) h))))

  named_first_is : (p : Entity → Bool) (one : Option Entity) (i : Id) → IsFirst entity_cmp_total p one
      → IsFirst entity_cmp_total (λ m. p m || names_member i m) (named_first w dead one i)
  named_first_is p one (One x) f = former_first entity_cmp_total p (in_role x x ON_DELETE) one (counted x (protects w dead x x ON_DELETE)) f
      (role_first x x ON_DELETE)
  named_first_is p one (Two r t) f =
      let head = counted r (protects w dead r r ON_DELETE) in
      let tail = counted t (protects w dead t r ON_DELETE_TARGET) in
      first_alike entity_cmp_total (λ m. (p m || in_role r r ON_DELETE m) || in_role t r ON_DELETE_TARGET m) (λ m. p m || names_member (Two r t) m)
      (λ m. shared (p m) (has_item entity_cmp dead m) (entity_eq r m && entity_eq (policy w r ON_DELETE) PANIC)
      (entity_eq t m && entity_eq (policy w r ON_DELETE_TARGET) PANIC))
      (former entity_cmp (former entity_cmp one head) tail)
      (former_first entity_cmp_total (λ m. p m || in_role r r ON_DELETE m) (in_role t r ON_DELETE_TARGET) (former entity_cmp one head) tail
      (former_first entity_cmp_total p (in_role r r ON_DELETE) one head f (role_first r r ON_DELETE)) (role_first t r ON_DELETE_TARGET))

  abbrev is_protected : List Id → Entity → Bool
  is_protected ids m = has_item entity_cmp dead m && list_any (names_on w PANIC m) ids

  protected_first : (ids : List Id) → IsFirst entity_cmp_total (is_protected ids) (first_protected w dead ids)
  protected_first ids =
      first_alike entity_cmp_total (λ m. false || list_any (λ i. names_member i m) ids) (is_protected ids)
      (λ m. spread_left (has_item entity_cmp dead m) (names_on w PANIC m) ids) (first_protected w dead ids)
      (fold_first entity_cmp_total (named_first w dead) names_member named_first_is (λ m. false) None ids (λ m. refl))

  abbrev stays_of : List Entity → Entity → Bool
  stays_of es e = has_item entity_cmp es e && not (has_item entity_cmp dead e)

  abbrev one_stays : Entity → Entity → Bool
  one_stays x e = entity_eq x e && not (has_item entity_cmp dead e)

  outside_first : (es : List Entity) → IsFirst entity_cmp_total (stays_of es) (first_outside dead es)
  outside_first es =
      first_alike entity_cmp_total (λ e. false || list_any (λ x. one_stays x e) es) (stays_of es)
      (λ e. spread_right (not (has_item entity_cmp dead e)) (λ x. entity_eq x e) es) (first_outside dead es)
      (fold_first entity_cmp_total (λ one e. former entity_cmp one (counted e (not (has_item entity_cmp dead e))))
      one_stays step (λ e. false) None es (λ e. refl))
    where
      step : (p : Entity → Bool) (one : Option Entity) (x : Entity) → IsFirst entity_cmp_total p one
          → IsFirst entity_cmp_total (λ e. p e || one_stays x e) (former entity_cmp one (counted x (not (has_item entity_cmp dead x))))
      step p one x f =
          former_first entity_cmp_total p (one_stays x) one (counted x (not (has_item entity_cmp dead x))) f
          (counted_first entity_cmp_total (one_stays x) x (not (has_item entity_cmp dead x))
          (ap (λ t. t && not (has_item entity_cmp dead x)) (entity_eq_itself x))
          (λ b h. sym (entity_eq_is x b (first (entity_eq x b) (not (has_item entity_cmp dead b)) h))))

  -- ---- objections

  le_then : (r s : Ordering) → IsTrue (is_le r) → IsTrue (is_le s) → IsTrue (is_le (ordering_then r s))
  le_then r s h k = grind arith

  pair_first : (p q : Entity → Bool) (h m : Option Entity) → IsFirst entity_cmp_total p h → IsFirst entity_cmp_total q m
      → IsFirst objection_cmp_total (λ o. p o.holder && q o.member) (objection w dead h m)
  pair_first p q None m f g = λ o. ap (λ t. t && q o.member) (f o.holder)
  pair_first p q (Some h) None f g = λ o. and_right (p o.holder) (q o.member) (g o.member)
  pair_first p q (Some h) (Some m) f g = (
    both (p h) (q m) f.0 g.0,
    λ o k. le_then (entity_cmp h o.holder) (entity_cmp m o.member) (f.1 o.holder (first (p o.holder) (q o.member) k))
        (g.1 o.member (second (p o.holder) (q o.member) k)),
  )

  -- a holder of the table stays, and an id of its type names one who dies under the policy Panic
  abbrev pub objects_at : TableState → Objection → Bool
  objects_at t o = stays_of (entities_of t.rows) o.holder && is_protected t.ids o.member

  at_first : (t : TableState) → IsFirst objection_cmp_total (objects_at t) (objection_at w dead t)
  at_first t =
      pair_first (stays_of (entities_of t.rows)) (is_protected t.ids) (first_outside dead (entities_of t.rows)) (first_protected w dead t.ids)
      (outside_first (entities_of t.rows)) (protected_first t.ids)

module _ (w : WorldState) (slots : List (Option TableState)) (nodes : List Node) where
  abbrev pub objects : Node → Objection → Bool
  objects (Root e) o = false
  objects (Falling n) o = false
  objects (Named n) o = not (is_falling nodes n) && objects_at w (taken_among slots nodes) (table_in slots n) o

  one_first : (a : Node) → IsFirst objection_cmp_total (objects a) (objection_of w slots nodes a)
  one_first (Root e) = λ o. refl
  one_first (Falling n) = λ o. refl
  one_first (Named n) =
      elim (is_falling nodes n) as (λ b. IsFirst objection_cmp_total (λ o. not b && objects_at w (taken_among slots nodes) (table_in slots n) o)
      (cond b None (objection_at w (taken_among slots nodes) (table_in slots n)))) [
        | true ↦ λ o. refl
        | false ↦ at_first w (taken_among slots nodes) (table_in slots n)
      ]

  pub objection_first : IsFirst objection_cmp_total (λ o. list_any (λ a. objects a o) nodes) (first_objection w slots nodes)
  objection_first =
      fold_first objection_cmp_total (λ one a. former objection_cmp one (objection_of w slots nodes a)) objects
      (λ p one a f. former_first objection_cmp_total p (objects a) one (objection_of w slots nodes a) f (one_first a))
      (λ o. false) None nodes (λ o. refl)
