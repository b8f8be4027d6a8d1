-- The rows of a table, and what each change leaves of its shape.
use Rattle.eco_tables.proofs.Common.{◌≡◌, ℕ, ◌+◌, ◌-◌, ◌<◌, ◌≤◌, Bool, true, false, if◌then◌else◌, List, [], ◌∷◌, ◌++◌, map, length, get_or, set}
use Rattle.eco_tables.proofs.Common.{Option, Some, None, unwrap_or, is_some, refl, sym, ap, ◌∙◌, arith, All, swap_remove, length-map, length-set}
use Rattle.eco_tables.proofs.Common.{get_or-map, length-append, map-append, map-set, All-map, Entity, Id, Value, zeros, find, id_cmp, id_eq, has_item}
use Rattle.eco_tables.proofs.Common.{ColumnState, held_in, value_in, contents, lengthened, emptied, with_removed, column_with_value, with_held}
use Rattle.eco_tables.proofs.Common.{written, retyped, TableRow, rows_from, rows_of, retyped_row, HasShape, entities_of, HasIds}
use Rattle.eco_ids.proofs.Lists.{keys_paired, length-swap_remove}
use Rattle.eco_tables.proofs.Held.{find-absent}
use Rattle.eco_tables.proofs.Widths.{find-each}
use Rattle.eco_tables.proofs.Packing.{map_swap_remove}
use Rattle.eco_tables.proofs.Rows.{length-rows, entities_of-rows, row_of, get_or-rows, swapped_rows, values_held, joined_rows, written_rows}
use Rattle.eco_tables.proofs.Rows.{length-contents, contents_kinds, kinds_same, written_kind, within_ids, held_value}

pub entities_of_all : (ids : List Id) (cs : List ColumnState) (es : List Entity) → entities_of (rows_of ids cs es) ≡ es
entities_of_all ids cs es = same (rows_from cs 0 es) ∙ entities_of-rows cs 0 es
  where
    same : (rows : List TableRow) → entities_of (map (retyped_row ids) rows) ≡ entities_of rows
    same [] = refl
    same (r ∷ rows) = ap (λ xs. r.entity ∷ xs) (same rows)

-- a removal
pub removed_rows : (ids : List Id) (cs : List ColumnState) (es : List Entity) (row : ℕ) (d : Entity) (r : TableRow)
    → All (λ c. length c.values ≡ length es) cs → row < length es
    → rows_of ids (map (λ c. with_removed c row) cs) (swap_remove es row d) ≡ swap_remove (rows_of ids cs es) row r
removed_rows ids cs es row d r even there =
    ap (map (retyped_row ids)) (swapped_rows cs es row d r even there)
    ∙ map_swap_remove (retyped_row ids) (rows_from cs 0 es) row r r (rw (length-map (rows_from cs 0 es) (retyped_row ids), length-rows cs 0 es) there)

-- rows from elsewhere
pub added_rows : (ids : List Id) (cs : List ColumnState) (es : List Entity) (rows : List TableRow) (to : TableRow → TableRow)
    → All (λ c. length c.values ≡ length es) cs
    → map (retyped_row ids) (map (retyped_row (map (λ c. c.id) cs)) rows) ≡ map (retyped_row ids) (map to rows)
    → rows_of ids (map (λ c. lengthened c (values_held rows c.id)) cs) (es ++ entities_of rows) ≡ rows_of ids cs es ++ map (retyped_row ids) (map to rows)
added_rows ids cs es rows to even same =
    ap (map (retyped_row ids)) (joined_rows cs es rows even)
    ∙ map-append (retyped_row ids) (rows_from cs 0 es) (map (retyped_row (map (λ c. c.id) cs)) rows)
    ∙ ap (λ xs. rows_of ids cs es ++ xs) same

-- a write
pub set_rows : (ids : List Id) (cs : List ColumnState) (es : List Entity) (row : ℕ) (i : Id) (v : Value) (r : TableRow)
    → All (λ c. length c.values ≡ length es) cs → row < length es
    → retyped ids (with_held (held_in cs row) i v) ≡ with_held (retyped ids (held_in cs row)) i v
    → rows_of ids (map (λ c. written c row i v) cs) es
    ≡ set (rows_of ids cs es) row
    (record { entity = (get_or (rows_of ids cs es) row r).entity; held = with_held (get_or (rows_of ids cs es) row r).held i v })
set_rows ids cs es row i v r even there same =
    let within : row < length (rows_from cs 0 es) = rw (length-rows cs 0 es) there in
    let was : get_or (rows_from cs 0 es) row r ≡ row_of (get_or es row r.entity) cs row = get_or-rows cs es row r.entity r there in
    let is : get_or (rows_of ids cs es) row r ≡ retyped_row ids (row_of (get_or es row r.entity) cs row) =
    get_or-map (retyped_row ids) (rows_from cs 0 es) row r r within ∙ ap (retyped_row ids) was in
    ap (map (retyped_row ids)) (written_rows cs es row i v r even there)
    ∙ map-set (retyped_row ids) (rows_from cs 0 es) row _
    ∙ ap (set (rows_of ids cs es) row)
    ((λ t. record { entity = (was t).entity; held = retyped ids (with_held (was t).held i v) })
    ∙ (λ t. record { entity = get_or es row r.entity; held = same t })
    ∙ sym (λ t. record { entity = (is t).entity; held = with_held (is t).held i v }))

-- what each change leaves of the shape
module _ (ids : List Id) (es : List Entity) (capacity : ℕ) (cs : List ColumnState) (room : ℕ) (shape : HasShape ids es capacity cs room) where
  pub length-rows_of : length (rows_of ids cs es) ≡ length es
  length-rows_of = length-map (rows_from cs 0 es) (retyped_row ids) ∙ length-rows cs 0 es

  pub row_within : (row : ℕ) → row < length (rows_of ids cs es) → row < length es
  row_within row h = rw length-rows_of at h

  pub row_in_columns : (row : ℕ) → row < length (rows_of ids cs es) → All (λ c. row < length c.values) cs
  row_in_columns row h = λ k d in_cs. rw (shape.even k d in_cs) (row_within row h)

  -- a row of the table
  pub row_at : (row : ℕ) (e : Entity) (r : TableRow) → row < length es
      → get_or (rows_of ids cs es) row r ≡ retyped_row ids (row_of (get_or es row e) cs row)
  row_at row e r there =
      get_or-map (retyped_row ids) (rows_from cs 0 es) row r r (rw (length-rows cs 0 es) there) ∙ ap (retyped_row ids) (get_or-rows cs es row e r there)

  pub shape_joined : (g : Id → List Value) (fs : List Entity) → length fs ≤ room → ((i : Id) → length (g i) ≡ length fs)
      → HasShape ids (es ++ fs) capacity (map (λ c. lengthened c (g c.id)) cs) (room - length fs)
  shape_joined g fs some long = record {
    kinds = rw (kinds_same (λ c. lengthened c (g c.id)) (λ c. refl) cs) shape.kinds;
    even = All-map (λ c. length c.values ≡ length (es ++ fs)) (λ c. lengthened c (g c.id)) cs
        (λ k d in_cs.
        let both = length-append (get_or cs k d).values (g (get_or cs k d).id) in
        omega (arith, shape.even k d in_cs, long (get_or cs k d).id, both, length-append es fs));
    roomy = All-map (λ c. room - length fs ≤ c.room) (λ c. lengthened c (g c.id)) cs
        (λ k d in_cs. omega (arith, long (get_or cs k d).id, shape.roomy k d in_cs));
    rows_room = omega (arith, shape.rows_room, length-append es fs);
  }

  pub shape_removed : (row : ℕ) (e : Entity) → row < length es
      → HasShape ids (swap_remove es row e) capacity (map (λ c. with_removed c row) cs) (room + 1)
  shape_removed row e there = record {
    kinds = rw (kinds_same (λ c. with_removed c row) (λ c. refl) cs) shape.kinds;
    even = All-map (λ c. length c.values ≡ length (swap_remove es row e)) (λ c. with_removed c row) cs
        (λ k d in_cs. length-swap_remove (get_or cs k d).values row zeros ∙ ap (λ n. n - 1) (shape.even k d in_cs) ∙ sym (length-swap_remove es row e));
    roomy = All-map (λ c. room + 1 ≤ c.room) (λ c. with_removed c row) cs (λ k d in_cs. omega (arith, shape.roomy k d in_cs));
    rows_room = omega (arith, shape.rows_room, length-swap_remove es row e);
  }

  pub shape_emptied : HasShape ids [] capacity (map emptied cs) 0
  shape_emptied = record {
    kinds = rw (kinds_same emptied (λ c. refl) cs) shape.kinds;
    even = All-map (λ c. length c.values ≡ 0) emptied cs (λ k d in_cs. refl);
    roomy = All-map (λ c. 0 ≤ c.room) emptied cs (λ k d in_cs. omega arith);
    rows_room = omega arith;
  }

  pub shape_cleared : HasShape ids [] capacity (map emptied cs) (room + length es)
  shape_cleared = record {
    kinds = rw (kinds_same emptied (λ c. refl) cs) shape.kinds;
    even = All-map (λ c. length c.values ≡ 0) emptied cs (λ k d in_cs. refl);
    roomy = All-map (λ c. room + length es ≤ c.room) emptied cs (λ k d in_cs. omega (arith, shape.roomy k d in_cs, shape.even k d in_cs));
    rows_room = omega (arith, shape.rows_room);
  }

  pub shape_written : (row : ℕ) (i : Id) (v : Value) → HasShape ids es capacity (map (λ c. written c row i v) cs) room
  shape_written row i v = record {
    kinds = rw (kinds_same (λ c. written c row i v) (written_kind row i v) cs) shape.kinds;
    even = All-map (λ c. length c.values ≡ length es) (λ c. written c row i v) cs
        (λ k d in_cs. by_length (id_eq (get_or cs k d).id i) (get_or cs k d) ∙ shape.even k d in_cs);
    roomy = All-map (λ c. room ≤ c.room) (λ c. written c row i v) cs
        (λ k d in_cs. rw (by_room (id_eq (get_or cs k d).id i) (get_or cs k d)) (shape.roomy k d in_cs));
    rows_room = shape.rows_room;
  }
    where
      by_length : (b : Bool) (c : ColumnState) → length (if b then column_with_value c row v else c).values ≡ length c.values
      by_length true c = length-set c.values row v
      by_length false c = refl

      by_room : (b : Bool) (c : ColumnState) → (if b then column_with_value c row v else c).room ≡ c.room
      by_room true c = refl
      by_room false c = refl

  pub shape_reserved : (ds : List ColumnState) (capacity' room' : ℕ) → map contents ds ≡ map contents cs → All (λ c. room' ≤ c.room) ds
      → length es + room' ≤ capacity' → HasShape ids es capacity' ds room'
  shape_reserved ds capacity' room' same roomy fits = record {
    kinds = rw (contents_kinds cs ds same) shape.kinds;
    even = evens;
    roomy = roomy;
    rows_room = fits;
  }
    where
      evens : All (λ c. length c.values ≡ length es) ds
      evens k d in_ds =
          let in_cs : k < length cs = rw (length-contents cs ds same) at in_ds in
          sym (ap (λ p. length p.1) (get_or-map contents ds k d (contents d) in_ds))
          ∙ ap (λ xs. length (get_or xs k (contents d)).1) same
          ∙ ap (λ p. length p.1) (get_or-map contents cs k d (contents d) in_cs)
          ∙ shape.even k d in_cs

  -- a value that is read
  pub value_read : (row : ℕ) (i : Id) (r : TableRow) → row < length es
      → value_in (get_or (rows_of ids cs es) row r).held i ≡ value_in (held_in cs row) i
  value_read row i r there = ap (λ (x : TableRow). value_in x.held i) (row_at row r.entity r there) ∙ held_value ids cs shape.kinds row i

  find_read : (row : ℕ) (i : Id) (r : TableRow) → row < length es
      → find id_cmp i (get_or (rows_of ids cs es) row r).held ≡ (if has_item id_cmp ids i then Some (value_in (held_in cs row) i) else None)
  find_read row i r there = ap (λ (x : TableRow). find id_cmp i x.held) (row_at row r.entity r there) ∙ find-each (value_in (held_in cs row)) ids i

  pub has_read : (row : ℕ) (i : Id) (r : TableRow) → row < length es
      → is_some (find id_cmp i (get_or (rows_of ids cs es) row r).held) ≡ has_item id_cmp ids i
  has_read row i r there = ap is_some (find_read row i r there) ∙ by (has_item id_cmp ids i)
    where
      by : (b : Bool) → is_some (if b then Some (value_in (held_in cs row) i) else None) ≡ b
      by true = refl
      by false = refl

  pub zeros_read : (row : ℕ) (i : Id) (r : TableRow) → row < length es → find id_cmp i (held_in cs row) ≡ None → has_item id_cmp ids i ≡ true
      → find id_cmp i (get_or (rows_of ids cs es) row r).held ≡ Some zeros
  zeros_read row i r there none has =
      find_read row i r there ∙ ap (λ b. if b then Some (value_in (held_in cs row) i) else None) has ∙ ap (λ o. Some (unwrap_or o zeros)) none

  pub none_read : (row : ℕ) (i : Id) (r : TableRow) → row < length es → has_item id_cmp ids i ≡ false
      → find id_cmp i (get_or (rows_of ids cs es) row r).held ≡ None
  none_read row i r there none = find_read row i r there ∙ ap (λ b. if b then Some (value_in (held_in cs row) i) else None) none

  pub found_read : (row : ℕ) (i : Id) (r : TableRow) (v : Value) → row < length es → find id_cmp i (held_in cs row) ≡ Some v
      → find id_cmp i (get_or (rows_of ids cs es) row r).held ≡ Some v
  found_read row i r v there found =
      find_read row i r there
      ∙ ap (λ b. if b then Some (value_in (held_in cs row) i) else None)
      (within_ids ids cs shape.kinds i (has (has_item id_cmp (map (λ c. c.id) cs) i) refl))
      ∙ ap (λ o. Some (unwrap_or o zeros)) found
    where
      has : (b : Bool) → has_item id_cmp (map (λ c. c.id) cs) i ≡ b → has_item id_cmp (map (λ c. c.id) cs) i ≡ true
      has true e = e
      has false e = let bad : ◌≡◌ {A = Option Value} None (Some v) = sym (find-absent (λ c. get_or c.values row zeros) cs i e) ∙ found in cc

  -- each row has a value for each id
  pub rows_have_ids : All (HasIds ids) (rows_of ids cs es)
  rows_have_ids = All-map (HasIds ids) (retyped_row ids) (rows_from cs 0 es) (λ k r there. keys_paired (value_in (get_or (rows_from cs 0 es) k r).held) ids)
