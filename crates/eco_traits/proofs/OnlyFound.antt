-- One row of one table alone names an entity, by one id.
use Rattle.eco_traits.proofs.CleanupCommon.{◌≡◌, ℕ, Bool, true, false, true≢false, not, length, get_or, List, [], ◌∷◌, filter, slice_get, Option}
use Rattle.eco_traits.proofs.CleanupCommon.{Some, None, ◌&&◌, IsTrue, IsFalse, refl, sym, ap, ◌∙◌, subst, arith, or-false, false_from_ne_true, Entity}
use Rattle.eco_traits.proofs.CleanupCommon.{DELETE, PANIC, Id, Indexed, record_of, entity_cmp, entity_eq, has_item, id_cmp, id_eq, is_ascending, names_entity, Record}
use Rattle.eco_traits.proofs.CleanupCommon.{has, both, first, second, id_eq_is, id_eq_itself, or_left, TableRow, TableState, entities_of, slot_of, table_in, row_at}
use Rattle.eco_traits.proofs.CleanupCommon.{IsShown, world_of, falls, is_naming, touches, names_on, Node, Root, Falling, Named}
use Rattle.std.proofs.lemmas.Map.Views.{any-filter_same}
use Rattle.eco_index.specs.TypeTests.{type_names as any_names}
use Rattle.eco_traits.specs.OnlyHolders.{IsOnlyHolder}
use Rattle.eco_traits.proofs.Deaths.{one_is, one_itself}
use Rattle.eco_traits.proofs.Planned.{ids_standing}
use Rattle.eco_traits.proofs.Standing.{any_id, found_at, has_at, row_of, stands_among, stands_with}

-- ---- the ids of a list that pass a test

passed : (test : Id → Bool) (ids : List Id) (j : Id) → has_item id_cmp (filter test ids) j ≡ (test j && has_item id_cmp ids j)
passed test ids j = any-filter_same (λ i. id_eq i j) test (test j) (λ i same. ap test (id_eq_is i j same)) ids

-- ---- nodes

abbrev slot_in : Node → ℕ
slot_in (Root e) = 0
slot_in (Falling n) = n
slot_in (Named n) = n

abbrev falls_in : Node → Bool
falls_in (Root e) = false
falls_in (Falling n) = true
falls_in (Named n) = false

pub first_alone : (es : List Entity) (d : Entity) → length es ≡ 1 → es ≡ get_or es 0 d ∷ []
first_alone [] d len = absurd (omega (arith, len))
first_alone (e ∷ []) d len = refl
first_alone (e ∷ x ∷ es) d len = absurd (omega (arith, len))

module _ (v : Indexed Record) (slots : List (Option TableState)) (shown : IsShown v slots) (m : Entity) (n : ℕ) (h : Entity) (i : Id)
    (alone : (b : Node) → IsTrue (touches (world_of v) slots m b) → b ≡ Named n)
    (named : filter (λ j. names_entity j m) (table_in slots n).ids ≡ i ∷ [])
    (rows : entities_of (table_in slots n).rows ≡ h ∷ []) where
  own_row : (k : ℕ) × (r : TableRow) × (slice_get (table_in slots n).rows k ≡ Some r) × (r.entity ≡ h)
  own_row = row_of (table_in slots n).rows h (subst (λ es. IsTrue (has_item entity_cmp es h)) (sym rows) (one_itself h))

  own_id : IsTrue (has_item id_cmp (table_in slots n).ids i) × IsTrue (names_entity i m)
  own_id =
      let both_are = sym (passed (λ j. names_entity j m) (table_in slots n).ids i)
      ∙ subst (λ ids. IsTrue (has_item id_cmp ids i)) (sym named) (or_left (id_eq i i) false (id_eq_itself i)) in
      (second (names_entity i m) _ both_are, first (names_entity i m) _ both_are)

  had : IsTrue (has (world_of v) h i)
  had = subst (λ x. IsTrue (has (world_of v) x i)) own_row.3 (has_at v slots shown n own_row.0 own_row.1 i own_row.2 ∙ own_id.0)

  -- no table falls, and no other is named
  no_fall : (k : ℕ) → IsTrue (is_naming slots m k) → IsFalse (falls (world_of v) slots m k)
  no_fall k there = false_from_ne_true (falls (world_of v) slots m k) (λ is.
      true≢false (ap falls_in (alone (Falling k) (both (is_naming slots m k) (falls (world_of v) slots m k) there is))))

  same_slot : (k : ℕ) → IsTrue (is_naming slots m k) → k ≡ n
  same_slot k there =
      ap slot_in (alone (Named k) (both (is_naming slots m k) (not (falls (world_of v) slots m k)) there (ap not (no_fall k there))))

  names_there : (k row : ℕ) (r : TableRow) (j : Id) → row_at slots k row ≡ Some r → IsTrue (has_item id_cmp (table_in slots k).ids j)
      → IsTrue (names_entity j m) → IsTrue (is_naming slots m k)
  names_there k row r j at there names =
      found_at (λ ids. any_names ids m) (slot_of slots k) row r at (any_id (λ x. names_entity x m) (table_in slots k).ids j there names)

  -- in that row, by that id
  at_slot : (k row : ℕ) (r : TableRow) (j : Id) → k ≡ n → row_at slots k row ≡ Some r → IsTrue (has_item id_cmp (table_in slots k).ids j)
      → IsTrue (names_entity j m) → (r.entity ≡ h) × (j ≡ i)
  at_slot k row r j same at there names =
      let stands = stands_among (table_in slots n).rows row r (subst (λ x. row_at slots x row ≡ Some r) same at) in
      let passes = passed (λ x. names_entity x m) (table_in slots n).ids j
      ∙ both (names_entity j m) _ names (subst (λ x. IsTrue (has_item id_cmp (table_in slots x).ids j)) same there) in (
        sym (one_is h r.entity (subst (λ es. IsTrue (has_item entity_cmp es r.entity)) rows stands)),
        sym (id_eq_is i j (sym (or-false (id_eq i j)) ∙ subst (λ ids. IsTrue (has_item id_cmp ids j)) named passes)),
      )

  alone_has : (x : Entity) (j : Id) → IsTrue (has (world_of v) x j) → IsTrue (names_entity j m) → (x ≡ h) × (j ≡ i)
  alone_has x j has_it names =
      let at = stands_with v slots shown x j has_it in
      let same = same_slot at.0 (names_there at.0 at.1 at.2 j at.3 at.5 names) in
      let is = at_slot at.0 at.1 at.2 j same at.3 at.5 names in
      (sym at.4 ∙ is.0, is.1)

  not_deleted : IsFalse (names_on (world_of v) DELETE m i)
  not_deleted = false_from_ne_true (names_on (world_of v) DELETE m i) (λ is.
      true≢false (sym (any_id (names_on (world_of v) DELETE m) (table_in slots n).ids i own_id.0 is)
      ∙ no_fall n (names_there n own_row.0 own_row.1 i own_row.2 own_id.0 own_id.1)))

  pub found_only : IsTrue (is_ascending id_cmp (table_in slots n).ids) → IsFalse (entity_eq h m) → IsFalse (names_on (world_of v) PANIC m i)
      → IsOnlyHolder v (record { member = m; holder = h; id = i })
  found_only ascending apart allowed = record {
    apart = apart;
    there = had;
    names = own_id.1;
    only = alone_has;
    stays = not_deleted;
    allowed = allowed;
    ascends = λ r at. subst (λ ids. IsTrue (is_ascending id_cmp ids))
        (sym (ids_standing (record_of v (own_row.1).entity) (table_in slots n) own_row.0 r (ap (record_of v) own_row.3 ∙ at)
        (shown.rows n own_row.0 own_row.1 own_row.2) (shown.own n))) ascending;
  }
