-- Whether an id names a member under the policy Delete, asked of the relationships of which holders die with targets.
use Rattle.eco_traits.proofs.CleanupCommon.{arith, ◌≡◌, ℕ, Bool, true≢false, nat_eq, ◌&&◌, ◌||◌, inl, inr, List, slice_get, Option, Some}
use Rattle.eco_traits.proofs.CleanupCommon.{None, same_tests}
use Rattle.eco_traits.proofs.CleanupCommon.{option_map, unwrap_or, IsTrue, refl, sym, ◌∙◌, subst, list_any, Decides-eqb, none-some, Entity, DELETE, ON_DELETE}
use Rattle.eco_traits.proofs.CleanupCommon.{ON_DELETE_TARGET, Id, One, Two, Is, Pattern, policy, Indexed, entity_cmp, entity_eq, has_item, id_cmp, Record, WorldState}
use Rattle.eco_traits.proofs.CleanupCommon.{has, both, first, second, any_is, or_left, or_parts, or_right, entity_eq_is, entity_eq_itself, TableRow, TableState}
use Rattle.eco_traits.proofs.CleanupCommon.{entities_of, no_table, slot_of, table_in, row_at, type_at, type_matches, IsShown, world_of, is_head, names_on}
use Rattle.eco_ids.specs.Matching.{pattern_matches}
use Rattle.eco_traits.proofs.Deaths.{any_entity, some_entity}
use Rattle.eco_traits.proofs.Standing.{any_id, has_at, row_of, some_id, stands_among, stands_with}
use Rattle.eco_ids.specs.declared.pattern.Pattern.TheVariants as pattern

-- what such a relationship has
abbrev that : Id
that = Two ON_DELETE_TARGET DELETE

abbrev pub deleting : Pattern
deleting = pattern.Two (Is ON_DELETE_TARGET) (Is DELETE)

-- a policy is Delete where the entity has that pair
policy_delete : (w : WorldState) (r c : Entity) → entity_eq (policy w r c) DELETE ≡ has w r (Two c DELETE)
policy_delete w r c = grind arith

only_that : (i : Id) → IsTrue (pattern_matches deleting i) → i ≡ that
only_that (One x) h = absurd (true≢false (sym h))
only_that (Two r t) h =
    let head = entity_eq_is ON_DELETE_TARGET r (first (entity_eq ON_DELETE_TARGET r) (entity_eq DELETE t) h) in
    let tail = entity_eq_is DELETE t (second (entity_eq ON_DELETE_TARGET r) (entity_eq DELETE t) h) in
    λ k. Two (sym head k) (sym tail k)

typed : (o : Option TableState) → IsTrue (type_matches (option_map (λ (t : TableState). t.ids) o) deleting)
    → IsTrue (has_item id_cmp (unwrap_or o no_table).ids that)
typed None h = absurd (true≢false (sym h))
typed (Some t) h = let one = some_id (pattern_matches deleting) t.ids h in subst (λ i. IsTrue (has_item id_cmp t.ids i)) (only_that one.0 one.2) one.1

matched : (o : Option TableState) (k : ℕ) (row : TableRow) → slice_get (unwrap_or o no_table).rows k ≡ Some row
    → IsTrue (has_item id_cmp (unwrap_or o no_table).ids that) → IsTrue (type_matches (option_map (λ (t : TableState). t.ids) o) deleting)
matched None k row at h = absurd (none-some row at)
matched (Some t) k row at h = any_id (pattern_matches deleting) t.ids that h refl

-- who heads an id that names the member is the member
head_names : (w : WorldState) (m : Entity) (i : Id) → IsTrue (is_head m i) → IsTrue (entity_eq (policy w m ON_DELETE) DELETE)
    → IsTrue (names_on w DELETE m i)
head_names w m (One x) is own =
    both (entity_eq x m) (entity_eq (policy w x ON_DELETE) DELETE) is
    (subst (λ y. IsTrue (entity_eq (policy w y ON_DELETE) DELETE)) (sym (entity_eq_is x m is)) own)
head_names w m (Two r t) is own =
    or_left (entity_eq r m && entity_eq (policy w r ON_DELETE) DELETE) (entity_eq t m && entity_eq (policy w r ON_DELETE_TARGET) DELETE)
    (both (entity_eq r m) (entity_eq (policy w r ON_DELETE) DELETE) is
    (subst (λ y. IsTrue (entity_eq (policy w y ON_DELETE) DELETE)) (sym (entity_eq_is r m is)) own))

module _ (v : Indexed Record) (slots : List (Option TableState)) (shown : IsShown v slots) (m : Entity) (ids : List Id) (found : List ℕ)
    (all : (n : ℕ) → list_any (nat_eq n) found ≡ type_matches (type_at slots n) deleting) where
  abbrev w : WorldState
  w = world_of v

  -- one of these has a pair with the member
  abbrev at_slot : ℕ → Bool
  at_slot n = list_any (λ r. has_item id_cmp ids (Two r m)) (entities_of (table_in slots n).rows)

  abbrev own : Bool
  own = entity_eq (policy w m ON_DELETE) DELETE

  found_has : (n k : ℕ) (row : TableRow) → row_at slots n k ≡ Some row → IsTrue (list_any (nat_eq n) found) → IsTrue (has w row.entity that)
  found_has n k row at there = has_at v slots shown n k row that at ∙ typed (slot_of slots n) (sym (all n) ∙ there)

  has_found : (r : Entity) → IsTrue (has w r that)
      → (n : ℕ) × IsTrue (list_any (nat_eq n) found) × IsTrue (has_item entity_cmp (entities_of (table_in slots n).rows) r)
  has_found r h =
      let at = stands_with v slots shown r that h in (
        at.0,
        all at.0 ∙ matched (slot_of slots at.0) at.1 at.2 at.3 at.5,
        subst (λ x. IsTrue (has_item entity_cmp (entities_of (table_in slots at.0).rows) x)) at.4 (stands_among (table_in slots at.0).rows at.1 at.2 at.3),
      )

  pairs_name : IsTrue (list_any at_slot found) → IsTrue (list_any (names_on w DELETE m) ids)
  pairs_name h =
      let slot = any_is at_slot found h in
      let one = some_entity (λ r. has_item id_cmp ids (Two r m)) (entities_of (table_in slots slot.0).rows) slot.1 in
      let r = one.0 in
      let row = row_of (table_in slots slot.0).rows r one.1 in
      let there : IsTrue (has w r that) =
      subst (λ x. IsTrue (has w x that)) row.3 (found_has slot.0 row.0 row.1 row.2 (slot.2 (nat_eq slot.0) ((Decides-eqb slot.0 slot.0).1 refl))) in
      any_id (names_on w DELETE m) ids (Two r m) one.2
      (or_right (entity_eq r m && entity_eq (policy w r ON_DELETE) DELETE) (entity_eq m m && entity_eq (policy w r ON_DELETE_TARGET) DELETE)
      (both (entity_eq m m) (entity_eq (policy w r ON_DELETE_TARGET) DELETE) (entity_eq_itself m) (policy_delete w r ON_DELETE_TARGET ∙ there)))

  heads_name : IsTrue (own && list_any (is_head m) ids) → IsTrue (list_any (names_on w DELETE m) ids)
  heads_name h =
      let one = some_id (is_head m) ids (second own (list_any (is_head m) ids) h) in
      any_id (names_on w DELETE m) ids one.0 one.1 (head_names w m one.0 one.2 (first own (list_any (is_head m) ids) h))

  by_head : (r : Entity) (i : Id) → IsTrue (has_item id_cmp ids i) → IsTrue (is_head r i)
      → IsTrue (entity_eq r m && entity_eq (policy w r ON_DELETE) DELETE)
      → IsTrue (own && list_any (is_head m) ids)
  by_head r i there head on =
      let same = entity_eq_is r m (first (entity_eq r m) (entity_eq (policy w r ON_DELETE) DELETE) on) in
      both own (list_any (is_head m) ids)
      (subst (λ y. IsTrue (entity_eq (policy w y ON_DELETE) DELETE)) same (second (entity_eq r m) (entity_eq (policy w r ON_DELETE) DELETE) on))
      (any_id (is_head m) ids i there (subst (λ y. IsTrue (is_head y i)) same head))

  by_pair : (r t : Entity) → IsTrue (has_item id_cmp ids (Two r t)) → IsTrue (entity_eq t m && entity_eq (policy w r ON_DELETE_TARGET) DELETE)
      → IsTrue (list_any at_slot found)
  by_pair r t there on =
      let same = entity_eq_is t m (first (entity_eq t m) (entity_eq (policy w r ON_DELETE_TARGET) DELETE) on) in
      let had = sym (policy_delete w r ON_DELETE_TARGET) ∙ second (entity_eq t m) (entity_eq (policy w r ON_DELETE_TARGET) DELETE) on in
      let stands = has_found r had in
      let slot = any_is (nat_eq stands.0) found stands.1 in
      let rows = any_entity (λ x. has_item id_cmp ids (Two x m)) (entities_of (table_in slots stands.0).rows) r stands.2
      (subst (λ y. IsTrue (has_item id_cmp ids (Two r y))) same there) in
      slot.2 at_slot (subst (λ n. IsTrue (at_slot n)) ((Decides-eqb stands.0 slot.0).0 slot.1) rows)

  named_either : (i : Id) → IsTrue (has_item id_cmp ids i) → IsTrue (names_on w DELETE m i)
      → IsTrue ((own && list_any (is_head m) ids) || list_any at_slot found)
  named_either (One x) there on = or_left (own && list_any (is_head m) ids) (list_any at_slot found) (by_head x (One x) there (entity_eq_itself x) on)
  named_either (Two r t) there on =
      elim (or_parts (entity_eq r m && entity_eq (policy w r ON_DELETE) DELETE) (entity_eq t m && entity_eq (policy w r ON_DELETE_TARGET) DELETE) on) as
      (λ _. IsTrue ((own && list_any (is_head m) ids) || list_any at_slot found)) [
        | inl k ↦ or_left (own && list_any (is_head m) ids) (list_any at_slot found) (by_head r (Two r t) there (entity_eq_itself r) k)
        | inr k ↦ or_right (own && list_any (is_head m) ids) (list_any at_slot found) (by_pair r t there k)
      ]

  pub deletes_exactly : ((own && list_any (is_head m) ids) || list_any at_slot found) ≡ list_any (names_on w DELETE m) ids
  deletes_exactly = same_tests ((own && list_any (is_head m) ids) || list_any at_slot found) (list_any (names_on w DELETE m) ids)
      (λ h. elim (or_parts (own && list_any (is_head m) ids) (list_any at_slot found) h) as (λ _. IsTrue (list_any (names_on w DELETE m) ids)) [
        | inl k ↦ heads_name k
        | inr k ↦ pairs_name k
      ]) (λ h. let one = some_id (names_on w DELETE m) ids h in named_either one.0 one.1 one.2)
