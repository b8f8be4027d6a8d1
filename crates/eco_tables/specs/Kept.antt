-- Ids of which a table keeps no field.
use Rattle.std.specs.Prelude.{◌≡◌, ℕ, MatchOption, None, slice_index_or}
use Rattle.std.specs.FinMap.Entries.{find}
use Rattle.eco_ids.specs.declared.id.Id.{Id}
use Rattle.eco_ids.specs.Order.{id_cmp}
use Rattle.eco_tables.specs.Table.{TableState, TableRow, width_in}

-- no field of the id is kept in the row: the type lacks the id, or its values have no fields
abbrev pub IsUnkept : TableState → ℕ → Id → Type 0
IsUnkept t row i = MatchOption (width_in t i) ((r : TableRow) → find id_cmp i (slice_index_or t.rows row r).held ≡ None) (λ n. n ≡ 0)
