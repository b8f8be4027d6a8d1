-- Rows that columns show one after another.
use Rattle.eco_frame.proofs.Common.{◌≡◌, ◌+◌, ◌<◌, ◌≤◌, ◌++◌, ℕ, zero, suc, List, [], ◌∷◌, Option, None, Some, ap}
use Rattle.eco_frame.proofs.Common.{arith, drop, flat_map, get_or}
use Rattle.eco_frame.proofs.Common.{get_or-drop, get_or_from_slice_get, length, length-drop, length-take-le, map, refl, slice_get, slice_get-map}
use Rattle.eco_frame.proofs.Common.{slice_get_within, subst, sym, take, take_more, unwrap_or, option_map, option_to_list, ◌∙◌, AllByRecursion, Command}
use Rattle.eco_frame.proofs.Common.{append-nil, Entity, ValuedRow}
use Rattle.std.specs.Slice.{IsItemAt}
use Rattle.eco_ids.specs.Run.{Set}
use Rattle.eco_ids.specs.declared.id.Id.{Id}
use Rattle.eco_ids.specs.declared.value.Value.{Value}
use Rattle.eco_tables.specs.Values.{whole_values}
use Rattle.eco_bodies.specs.Lent.{item_at}
use Rattle.eco_bodies.specs.RowSums.{set_both, set_sum_of, set_sums_from}
use Rattle.eco_frame.specs.declared.column.Column.{Column}
use Rattle.eco_frame.specs.Rows.{lent_rows_from, shown_in}
use Rattle.eco_frame.proofs.Columns.{no_sum, nothing_at}

-- ---- one more of a list from a place on

module _ {X : Type 0} (xs : List X) (n k : ℕ) (x : X) (at : slice_get xs (n + k) ≡ Some x) where
  pub more_within : k + 1 ≤ length (drop n xs)
  more_within = let within = slice_get_within xs (n + k) x at in let left = length-drop n xs in omega (arith, within, left)

  more_of : take (k + 1) (drop n xs) ≡ take k (drop n xs) ++ x ∷ []
  more_of =
      let within = more_within in
      let there : k < length (drop n xs) = omega (arith, within) in
      take_more (drop n xs) k x there
      ∙ ap (λ y. take k (drop n xs) ++ y ∷ []) (get_or-drop n xs k x ∙ get_or_from_slice_get xs (n + k) x x at)

-- ---- rows

module _ (entries : List (Option Id)) (columns : List Column) where
  abbrev row_of : ℕ → Entity → ValuedRow
  row_of row e = record { entity = e; entries = entries; values = map (shown_in row) columns }

  pub rows_count : (row : ℕ) (entities : List Entity) → length (lent_rows_from entries columns row entities) ≡ length entities
  rows_count row [] = refl
  rows_count row (e ∷ entities) = ap suc (rows_count (row + 1) entities)

  pub rows_share : (row : ℕ) (entities : List Entity) → AllByRecursion (λ (r : ValuedRow). r.entries ≡ entries) (lent_rows_from entries columns row entities)
  rows_share row [] = tt
  rows_share row (e ∷ entities) = (refl, rows_share (row + 1) entities)

  pub row_there : (row k : ℕ) (entities : List Entity) (d : Entity) → k < length entities
      → slice_get (lent_rows_from entries columns row entities) k ≡ Some (row_of (row + k) (get_or entities k d))
  row_there row k [] d h = absurd (omega (arith, h))
  row_there row zero (e ∷ entities) d h = let start : row ≡ row + 0 = omega arith in ap (λ n. Some (row_of n e)) start
  row_there row (suc k) (e ∷ entities) d h =
      let next : (row + 1) + k ≡ row + suc k = omega arith in
      row_there (row + 1) k entities d (omega (arith, h)) ∙ ap (λ n. Some (row_of n (get_or entities k d))) next

  rows_push : (row : ℕ) (entities : List Entity) (e : Entity)
      → lent_rows_from entries columns row (entities ++ e ∷ []) ≡ lent_rows_from entries columns row entities ++ row_of (row + length entities) e ∷ []
  rows_push row [] e = let start : row ≡ row + 0 = omega arith in ap (λ n. row_of n e ∷ []) start
  rows_push row (x ∷ entities) e =
      let next : (row + 1) + length entities ≡ row + suc (length entities) = omega arith in
      ap (λ l. row_of row x ∷ l)
      (rows_push (row + 1) entities e ∙ ap (λ n. lent_rows_from entries columns (row + 1) entities ++ row_of n e ∷ []) next)

  -- those of a table so far are those of a query, and so are they with one more
  pub run_more : (row place count : ℕ) (table : List Entity) (all : List ValuedRow) (e : Entity) → count ≤ length (drop row table)
      → slice_get table (row + count) ≡ Some e → slice_get all (place + count) ≡ Some (row_of (row + count) e)
      → lent_rows_from entries columns row (take count (drop row table)) ≡ take count (drop place all)
      → lent_rows_from entries columns row (take (count + 1) (drop row table)) ≡ take (count + 1) (drop place all)
  run_more row place count table all e some stands shows so_far =
      let len = length-take-le count (drop row table) some in
      ap (lent_rows_from entries columns row) (more_of table row count e stands)
      ∙ rows_push row (take count (drop row table)) e
      ∙ ap (λ n. lent_rows_from entries columns row (take count (drop row table)) ++ row_of (row + n) e ∷ []) len
      ∙ ap (λ l. l ++ row_of (row + count) e ∷ []) so_far
      ∙ sym (more_of all place count (row_of (row + count) e) shows)

  -- where there are none of the table, one row stands alone
  module _ (row : ℕ) (table entities : List Entity) (e : Entity) where
    pub run_lent : (count : ℕ) → count ≤ length (drop row table) → (count ≡ 0 → entities ≡ e ∷ [])
        → (0 < count → entities ≡ take count (drop row table)) → (place : ℕ) (all : List ValuedRow) → slice_get all place ≡ Some (row_of row e)
        → lent_rows_from entries columns row (take count (drop row table)) ≡ take count (drop place all)
        → lent_rows_from entries columns row entities ≡ take (length entities) (drop place all)
    run_lent zero few none some place all at are =
        let start : place ≡ place + 0 = omega arith in
        subst (λ es. lent_rows_from entries columns row es ≡ take (length es) (drop place all)) (sym (none refl))
        (sym (more_of all place 0 (row_of row e) (subst (λ (n : ℕ). slice_get all n ≡ Some (row_of row e)) start at)))
    run_lent (suc n) few none some place all at are =
        let len = length-take-le (suc n) (drop row table) few in
        subst (λ es. lent_rows_from entries columns row es ≡ take (length es) (drop place all)) (sym (some (omega arith)))
        (are ∙ ap (λ k. take k (drop place all)) (sym len))

    pub run_bounds : (count most : ℕ) → count ≤ length (drop row table) → count ≤ most → 0 < most → (count ≡ 0 → entities ≡ e ∷ [])
        → (0 < count → entities ≡ take count (drop row table)) → (0 < length entities) × (length entities ≤ most)
    run_bounds zero most few less room none some = let len = ap length (none refl) in (omega (arith, len), omega (arith, len, room))
    run_bounds (suc n) most few less room none some =
        let len = ap length (some (omega arith)) ∙ length-take-le (suc n) (drop row table) few in (omega (arith, len), omega (arith, len, less))

  -- ---- their sums

  module _ (into from : ℕ) (i : Id) where
    abbrev sums : ℕ → List Entity → List Command
    sums row entities = flat_map (set_sum_of into from i) (lent_rows_from entries columns row entities)

    abbrev shown : ℕ → ℕ → Option Value
    shown row k = item_at (map (shown_in row) columns) k

    shows : (row k : ℕ) (c : Column) → slice_get columns k ≡ Some c → shown row k ≡ shown_in row c
    shows row k c at =
        ap (λ (o : Option (Option Value)). unwrap_or o None) (slice_get-map (shown_in row) columns k ∙ ap (option_map (shown_in row)) at)

    sums_are : (one other : Column) → slice_get columns into ≡ Some one → slice_get columns from ≡ Some other → (row : ℕ) (entities : List Entity)
        → sums row entities ≡ set_sums_from (whole_values one.values) (whole_values other.values) i row entities
    sums_are one other at there row [] = refl
    sums_are one other at there row (e ∷ entities) =
        ap (λ v. set_both e i v (shown row from) ++ sums (row + 1) entities) (shows row into one at)
        ∙ ap (λ v. set_both e i (shown_in row one) v ++ sums (row + 1) entities) (shows row from other there)
        ∙ ap (λ l. set_both e i (shown_in row one) (shown_in row other) ++ l) (sums_are one other at there (row + 1) entities)

    pub sums_set : (one other : Column) → slice_get columns into ≡ Some one → slice_get columns from ≡ Some other
        → (row : ℕ) (entities : List Entity) (old new : List Command)
        → new ≡ old ++ set_sums_from (whole_values one.values) (whole_values other.values) i row entities
        → new ≡ old ++ sums row entities
    sums_set one other at there row entities old new are = are ∙ ap (λ l. old ++ l) (sym (sums_are one other at there row entities))

    none_into : IsItemAt columns into None → (row : ℕ) (entities : List Entity) → sums row entities ≡ []
    none_into at row [] = refl
    none_into at row (e ∷ entities) =
        ap (λ v. set_both e i v (shown row from) ++ sums (row + 1) entities) (sym (nothing_at row columns into at)) ∙ none_into at (row + 1) entities

    none_from : IsItemAt columns from None → (row : ℕ) (entities : List Entity) → sums row entities ≡ []
    none_from at row [] = refl
    none_from at row (e ∷ entities) =
        ap (λ v. set_both e i (shown row into) v ++ sums (row + 1) entities) (sym (nothing_at row columns from at))
        ∙ ap (λ o. option_to_list (option_map (λ sum. Set e i sum) o) ++ sums (row + 1) entities) (sym (no_sum (shown row into)))
        ∙ none_from at (row + 1) entities

    pub nothing_into : IsItemAt columns into None → (row : ℕ) (entities : List Entity) (old : List Command) → old ≡ old ++ sums row entities
    nothing_into at row entities old = sym (append-nil old) ∙ ap (λ l. old ++ l) (sym (none_into at row entities))

    pub nothing_from : IsItemAt columns from None → (row : ℕ) (entities : List Entity) (old : List Command) → old ≡ old ++ sums row entities
    nothing_from at row entities old = sym (append-nil old) ∙ ap (λ l. old ++ l) (sym (none_from at row entities))
