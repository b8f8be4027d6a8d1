-- An objection that is found is one that the definitions know, and the least.
use Rattle.eco_traits.proofs.CleanupCommon.{arith, ◌≡◌, ℕ, Bool, true, false, not, ◌&&◌, List, Option, Some, None, refl, sym, ap, ◌∙◌, subst}
use Rattle.eco_traits.proofs.CleanupCommon.{same_tests, true≢false, IsTrue, Ordering, Equal, tied_itself, list_any, is_le, ordering_then, Entity, PANIC, Forbids}
use Rattle.eco_traits.proofs.CleanupCommon.{IsDoomed, Indexed, entity_cmp, has_item, names_entity, Record, has, both, first, second, any_is, not_true, TableState}
use Rattle.eco_traits.proofs.CleanupCommon.{entities_of, slot_of, table_in, type_names, IsShown, AreStarts, IsSearch, falls, is_falling, is_naming, is_one_of}
use Rattle.eco_traits.proofs.CleanupCommon.{node_same, taken_among, JudgesDelete, first_objection, names_on, world_of, Node, Root, Falling, Named, Objection}
use Rattle.eco_ids.proofs.IdOrder.{entity_cmp_total}
use Rattle.eco_ids.proofs.LivingLists.{has_alive}
use Rattle.eco_traits.proofs.Deaths.{doomed_exactly, spare, touched_there}
use Rattle.eco_traits.proofs.Firsts.{IsFirst}
use Rattle.eco_traits.proofs.Objections.{objection_cmp_total, objection_first, objects, objects_at}
use Rattle.eco_traits.proofs.Roles.{names_on_exact, names_on_names}
use Rattle.eco_traits.proofs.Standing.{any_id, found_at, has_at, row_of, some_id, stands_among, stands_with}
use Rattle.eco_traits.specs.contracts.node.NodePartialEq.TheImpl as node_impl

le_first : (r s : Ordering) → IsTrue (is_le (ordering_then r s)) → IsTrue (is_le r)
le_first r s h = grind arith

le_second : (r s : Ordering) → r ≡ Equal → IsTrue (is_le (ordering_then r s)) → IsTrue (is_le s)
le_second r s tie h = subst (λ x. IsTrue (is_le (ordering_then x s))) tie h

module _ (v : Indexed Record) (slots : List (Option TableState)) (shown : IsShown v slots) (starts keys : List Node) (begin : AreStarts starts)
    (exact : IsSearch (world_of v) slots starts keys) (members : List Entity)
    (same : (e : Entity) → has_item entity_cmp members e ≡ has_item entity_cmp (taken_among slots keys) e) where
  -- ---- what objects, forbids

  forbids_at : (n : ℕ) (o : Objection) → IsTrue (objects_at (world_of v) (taken_among slots keys) (table_in slots n) o)
      → Forbids (world_of v) members o.holder o.member
  forbids_at n o h =
      let rows = (table_in slots n).rows in
      let standing = has_item entity_cmp (entities_of rows) o.holder in
      let stays = not (has_item entity_cmp (taken_among slots keys) o.holder) in
      let dies = has_item entity_cmp (taken_among slots keys) o.member in
      let named = list_any (names_on (world_of v) PANIC o.member) (table_in slots n).ids in
      let held = first (standing && stays) (dies && named) h in
      let protected = second (standing && stays) (dies && named) h in
      let row = row_of rows o.holder (first standing stays held) in
      let id = some_id (names_on (world_of v) PANIC o.member) (table_in slots n).ids (second dies named protected) in
      let has_id : IsTrue (has (world_of v) o.holder id.0) =
      subst (λ x. IsTrue (has (world_of v) x id.0)) row.3 (has_at v slots shown n row.0 row.1 id.0 row.2 ∙ id.1) in (
        has_alive (world_of v) o.holder id.0 has_id,
        same o.holder ∙ not_true (has_item entity_cmp (taken_among slots keys) o.holder) (second standing stays held),
        same o.member ∙ first dies named protected,
        (id.0, has_id, (names_on_exact (world_of v) PANIC o.member id.0).0 id.2),
      )

  forbids_of : (a : Node) (o : Objection) → IsTrue (objects (world_of v) slots keys a o) → Forbids (world_of v) members o.holder o.member
  forbids_of (Root e) o h = absurd (true≢false (sym h))
  forbids_of (Falling n) o h = absurd (true≢false (sym h))
  forbids_of (Named n) o h =
      let stays = not (is_falling keys n) in
      let objecting = objects_at (world_of v) (taken_among slots keys) (table_in slots n) o in forbids_at n o (second stays objecting h)

  abbrev some_objects : Objection → Bool
  some_objects o = list_any (λ a. objects (world_of v) slots keys a o) keys

  forbids_if : (o : Objection) → IsTrue (some_objects o) → Forbids (world_of v) members o.holder o.member
  forbids_if o h = let one = any_is (λ a. objects (world_of v) slots keys a o) keys h in forbids_of one.0 o one.1

  -- ---- what forbids, objects

  -- a table that names a member and stays is among those found
  pub named_there : (m : Entity) (n : ℕ) → IsTrue (has_item entity_cmp (taken_among slots keys) m) → IsTrue (is_naming slots m n)
      → is_falling keys n ≡ false
      → (b : Bool) → falls (world_of v) slots m n ≡ b → IsTrue (is_one_of keys (Named n))
  named_there m n dies found spared true falling =
      absurd (true≢false (sym (touched_there v slots shown starts keys begin exact m (Falling n) dies
      (both (is_naming slots m n) (falls (world_of v) slots m n) found falling)) ∙ spared))
  named_there m n dies found spared false falling =
      touched_there v slots shown starts keys begin exact m (Named n) dies
      (both (is_naming slots m n) (not (falls (world_of v) slots m n)) found (ap not falling))

  objects_if : (h m : Entity) → Forbids (world_of v) members h m → IsTrue (some_objects (record { holder = h; member = m }))
  objects_if h m forbids =
      let o : Objection = record { holder = h; member = m } in
      let held = forbids.3 in
      let row = stands_with v slots shown h held.0 held.1 in
      let n = row.0 in
      let rows = (table_in slots n).rows in
      let ids = (table_in slots n).ids in
      let on = (names_on_exact (world_of v) PANIC m held.0).1 held.2 in
      let panics = any_id (names_on (world_of v) PANIC m) ids held.0 row.5 on in
      let found = found_at (λ xs. type_names xs m) (slot_of slots n) row.1 row.2 row.3
      (any_id (λ i. names_entity i m) ids held.0 row.5 (names_on_names (world_of v) PANIC m held.0 on)) in
      let standing = subst (λ x. IsTrue (has_item entity_cmp (entities_of rows) x)) row.4 (stands_among rows row.1 row.2 row.3) in
      let stays = sym (same h) ∙ forbids.1 in
      let dies = sym (same m) ∙ forbids.2 in
      let spared : is_falling keys n ≡ false = spare v slots shown starts keys begin exact h n standing stays in
      let dead = taken_among slots keys in
      let objecting : IsTrue (objects (world_of v) slots keys (Named n) o) =
      both (not (is_falling keys n)) (objects_at (world_of v) dead (table_in slots n) o) (ap not spared)
      (both (has_item entity_cmp (entities_of rows) h && not (has_item entity_cmp dead h))
      (has_item entity_cmp dead m && list_any (names_on (world_of v) PANIC m) ids)
      (both (has_item entity_cmp (entities_of rows) h) (not (has_item entity_cmp dead h)) standing (ap not stays))
      (both (has_item entity_cmp dead m) (list_any (names_on (world_of v) PANIC m) ids) dies panics)) in
      let one = any_is ((node_impl.eq-value).it (Named n)) keys (named_there m n dies found spared (falls (world_of v) slots m n) refl) in
      one.2 (λ a. objects (world_of v) slots keys a o)
      (subst (λ a. IsTrue (objects (world_of v) slots keys a o)) (node_same (Named n) one.0 one.1) objecting)

  -- ---- the least of them

  judged_as : (o : Option Objection) → IsFirst objection_cmp_total some_objects o → JudgesDelete (world_of v) members o
  judged_as None none = λ h m forbids. true≢false (sym (objects_if h m forbids) ∙ none (record { holder = h; member = m }))
  judged_as (Some o) found = (
    forbids_if o found.0,
    λ h m forbids. le_first (entity_cmp o.holder h) (entity_cmp o.member m) (found.1 (record { holder = h; member = m }) (objects_if h m forbids)),
    λ m forbids. le_second (entity_cmp o.holder o.holder) (entity_cmp o.member m) (tied_itself entity_cmp_total o.holder)
        (found.1 (record { holder = o.holder; member = m }) (objects_if o.holder m forbids)),
  )

  pub judged : JudgesDelete (world_of v) members (first_objection (world_of v) slots keys)
  judged = judged_as (first_objection (world_of v) slots keys) (objection_first (world_of v) slots keys)

-- whatever the search found, its first objection is the least of all
pub judged_exactly : (v : Indexed Record) (slots : List (Option TableState)) → IsShown v slots → (starts keys : List Node) → AreStarts starts
    → IsSearch (world_of v) slots starts keys → (o : Option Objection) → o ≡ first_objection (world_of v) slots keys → (members : List Entity)
    → IsDoomed (world_of v) (λ x. IsTrue (has_item entity_cmp (taken_among slots starts) x)) members → JudgesDelete (world_of v) members o
judged_exactly v slots shown starts keys begin exact o is members list =
    subst (JudgesDelete (world_of v) members) (sym is) (judged v slots shown starts keys begin exact members same)
  where
    same : (e : Entity) → has_item entity_cmp members e ≡ has_item entity_cmp (taken_among slots keys) e
    same e =
        let found = doomed_exactly v slots shown starts keys begin exact e in
        same_tests (has_item entity_cmp members e) (has_item entity_cmp (taken_among slots keys) e)
        (λ h. found.1 ((list.exact e).0 h)) (λ h. (list.exact e).1 (found.0 h))
