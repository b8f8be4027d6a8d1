-- Each row has a value for each id of its table's type, whatever changes.
use Rattle.eco_tables.proofs.Common.{◌≡◌, ℕ, ◌<◌, ◌-◌, Bool, true, false, if◌then◌else◌, List, [], ◌∷◌, length, map, get_or, set}
use Rattle.eco_tables.proofs.Common.{refl, sym, ◌∙◌, subst, All, All-nil, All-set, All-map, All-append, Id, Value, id_eq, value_in, with_held, TableState}
use Rattle.eco_tables.proofs.Common.{TableRow, HasIds, RowsHaveIds, retyped_row, no_row, turned, with_rows, without_row}
use Rattle.eco_ids.proofs.Lists.{keys_paired, before, before_within, get_or-swap_remove, length-swap_remove}

ids_written : (held : List (Id × Value)) (i : Id) (v : Value) → map (λ (p : Id × Value). p.0) (with_held held i v) ≡ map (λ (p : Id × Value). p.0) held
ids_written [] i v = refl
ids_written (p ∷ held) i v = λ t. by (id_eq p.0 i) t ∷ ids_written held i v t
  where
    by : (b : Bool) → (if b then (p.0, v) else p).0 ≡ p.0
    by true = refl
    by false = refl

-- a table without rows
pub none_lacks : (t : TableState) → [] ≡ t.rows → RowsHaveIds t
none_lacks t none = subst (All (HasIds t.ids)) none (All-nil (HasIds t.ids))

-- more rows, under the table's own type
pub joined_have : (t : TableState) (rs : List TableRow) → RowsHaveIds t → RowsHaveIds (with_rows t rs)
joined_have t rs all =
    All-append (HasIds t.ids) t.rows (map (retyped_row t.ids) rs) all
    (All-map (HasIds t.ids) (retyped_row t.ids) rs (λ k r there. keys_paired (value_in (get_or rs k r).held) t.ids))

-- the rows under another type
pub turned_have : (t : TableState) (ids : List Id) (i : Id) (w : ℕ) → RowsHaveIds (turned t ids i w)
turned_have t ids i w = All-map (HasIds ids) (retyped_row ids) t.rows (λ k r there. keys_paired (value_in (get_or t.rows k r).held) ids)

-- a row less
pub removed_has : (t : TableState) (row : ℕ) → row < length t.rows → RowsHaveIds t → RowsHaveIds (without_row t row)
removed_has t row there all k d within =
    let inside : k < length t.rows - 1 = rw (length-swap_remove t.rows row no_row) at within in
    subst (HasIds t.ids) (sym (get_or-swap_remove t.rows row k no_row d there inside))
    (all (before row (length t.rows) k) d (before_within row (length t.rows) k inside))

-- another value in a row
pub written_has : (t : TableState) (row : ℕ) (i : Id) (v : Value) → row < length t.rows → RowsHaveIds t
    → All (HasIds t.ids) (set t.rows row (record { entity = (get_or t.rows row no_row).entity; held = with_held (get_or t.rows row no_row).held i v }))
written_has t row i v there all =
    All-set (HasIds t.ids) t.rows row _ (ids_written (get_or t.rows row no_row).held i v ∙ all row no_row there) all
