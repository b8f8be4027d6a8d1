-- Who stands in which table, and which ids that gives.
use Rattle.eco_traits.proofs.CleanupCommon.{◌≡◌, ℕ, zero, suc, Bool, nat_lt, List, [], ◌∷◌, length, slice_get, Option, Some, None, unwrap_or, refl, sym}
use Rattle.eco_traits.proofs.CleanupCommon.{ap, ◌∙◌, subst, true≢false, IsTrue, arith, inl, inr, list_any, nat_tests, none-some, same_Some, Entity, Id}
use Rattle.eco_traits.proofs.CleanupCommon.{Indexed, entity_cmp, entity_eq, has_item, id_cmp, id_eq, Record, has, both, keys, keys_find, any_is, id_eq_is}
use Rattle.eco_traits.proofs.CleanupCommon.{id_eq_itself, or_parts, or_right, has_in, entity_eq_is, entity_eq_itself, TableRow, RowsHaveIds, TableState, entities_of}
use Rattle.eco_traits.proofs.CleanupCommon.{no_row, no_table, table_in, is_found_by, row_at, IsShown, Stands, world_of}
use Rattle.std.proofs.lemmas.Bool.{or_left}
use Rattle.eco_ids.specs.World.{record_of}

-- ---- ids of a type

-- some id of the type passes
pub some_id : (p : Id → Bool) (ids : List Id) → IsTrue (list_any p ids) → (i : Id) × IsTrue (has_item id_cmp ids i) × IsTrue (p i)
some_id p ids h = let one = any_is p ids h in (one.0, one.2 (λ j. id_eq j one.0) (id_eq_itself one.0), one.1)

pub any_id : (p : Id → Bool) (ids : List Id) (i : Id) → IsTrue (has_item id_cmp ids i) → IsTrue (p i) → IsTrue (list_any p ids)
any_id p ids i h passes =
    let one = any_is (λ j. id_eq j i) ids h in
    one.2 p (subst (λ j. IsTrue (p j)) (sym (id_eq_is one.0 i one.1)) passes)

-- ---- rows

pub stands_among : (rows : List TableRow) (k : ℕ) (r : TableRow) → slice_get rows k ≡ Some r → IsTrue (has_item entity_cmp (entities_of rows) r.entity)
stands_among [] k r at = absurd (none-some r at)
stands_among (x ∷ rows) zero r at = or_left _ _ (subst (λ (y : TableRow). IsTrue (entity_eq x.entity y.entity)) (same_Some x r at) (entity_eq_itself x.entity))
stands_among (x ∷ rows) (suc k) r at = or_right _ _ (stands_among rows k r at)

pub row_of : (rows : List TableRow) (e : Entity) → IsTrue (has_item entity_cmp (entities_of rows) e)
    → (k : ℕ) × (r : TableRow) × (slice_get rows k ≡ Some r) × (r.entity ≡ e)
row_of [] e h = absurd (true≢false (sym h))
row_of (x ∷ rows) e h =
    elim (or_parts (entity_eq x.entity e) (has_item entity_cmp (entities_of rows) e) h) as (λ _. (k : ℕ) × (r : TableRow) × (slice_get (x ∷ rows) k ≡ Some r)
    × (r.entity ≡ e)) [
      | inl same ↦ (0, x, refl, entity_eq_is x.entity e same)
      | inr later ↦ let rest = row_of rows e later in (suc rest.0, rest.1, rest.2, rest.3)
    ]

some_rows : (rows : List TableRow) (k : ℕ) (r : TableRow) → slice_get rows k ≡ Some r → IsTrue (nat_lt 0 (length rows))
some_rows [] k r at = absurd (none-some r at)
some_rows (x ∷ rows) k r at = grind (arith, nat_tests)

pub found_at : (test : List Id → Bool) (o : Option TableState) (k : ℕ) (r : TableRow) → slice_get (unwrap_or o no_table).rows k ≡ Some r
    → IsTrue (test (unwrap_or o no_table).ids) → IsTrue (is_found_by test o)
found_at test None k r at h = absurd (none-some r at)
found_at test (Some t) k r at h = both _ _ (some_rows t.rows k r at) h

-- ---- what who stands there has

has_standing : (o : Option Record) (t : TableState) (row : ℕ) (i : Id) → Stands o t row → RowsHaveIds t → has_in o i ≡ has_item id_cmp t.ids i
has_standing None t row i stands own = absurd stands
has_standing (Some d) t row i stands own =
    keys_find d.held i ∙ ap (λ xs. has_item id_cmp xs i) (ap keys (stands.held no_row) ∙ own row no_row stands.within)

module _ (v : Indexed Record) (slots : List (Option TableState)) (shown : IsShown v slots) where
  pub has_at : (n k : ℕ) (r : TableRow) (i : Id) → row_at slots n k ≡ Some r → has (world_of v) r.entity i ≡ has_item id_cmp (table_in slots n).ids i
  has_at n k r i at = has_standing (record_of (world_of v) r.entity) (table_in slots n) k i (shown.rows n k r at) (shown.own n)

  -- who has an id stands in a table whose type has it
  pub stands_with : (h : Entity) (i : Id) → IsTrue (has (world_of v) h i)
      → (n : ℕ) × (k : ℕ) × (r : TableRow) × (row_at slots n k ≡ Some r) × (r.entity ≡ h) × IsTrue (has_item id_cmp (table_in slots n).ids i)
  stands_with h i there = by (record_of (world_of v) h) refl there
    where
      by : (o : Option Record) → record_of (world_of v) h ≡ o → IsTrue (has_in o i)
          → (n : ℕ) × (k : ℕ) × (r : TableRow) × (row_at slots n k ≡ Some r) × (r.entity ≡ h) × IsTrue (has_item id_cmp (table_in slots n).ids i)
      by None at had = absurd (true≢false (sym had))
      by (Some d) at had =
          let row = shown.living h d at in (
            row.0,
            row.1,
            row.2,
            row.3,
            row.4,
            sym (has_at row.0 row.1 row.2 i row.3) ∙ subst (λ e. IsTrue (has (world_of v) e i)) (sym row.4) there,
          )
