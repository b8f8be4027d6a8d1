-- A run: values of one id for entities that stand in rows one behind the other.
use Rattle.std.specs.Prelude.{◌≡◌, ℕ, ℤ, ◌+◌, ◌≤◌, List, [], ◌∷◌, IsTrue, length, map, slice_index_or, slice_set, take}
use Rattle.std.specs.List.{All}
use Rattle.eco_ids.specs.Data.{is_zero_past}
use Rattle.eco_ids.specs.World.{padded}
use Rattle.eco_ids.specs.declared.entity.Entity.{Entity}
use Rattle.eco_ids.specs.declared.id.Id.{Id}
use Rattle.eco_ids.specs.declared.value.Value.{Value}
use Rattle.eco_tables.specs.Column.{ColumnState, column_with_value}
use Rattle.eco_tables.specs.Table.{TableRow, TableState}
use Rattle.eco_tables.specs.Tables.{no_row, row_with}

-- the values with these in the places of those from the row on
abbrev pub values_with_run : List Value → ℕ → List Value → List Value
values_with_run values row [] = values
values_with_run values row (v ∷ vs) = values_with_run (slice_set values row v) (row + 1) vs

-- the column with these values, from the row on
abbrev pub column_with_run : ColumnState → ℕ → List Value → ColumnState
column_with_run c row [] = c
column_with_run c row (v ∷ vs) = column_with_run (column_with_value c row v) (row + 1) vs

-- the rows with these values at the id, from the row on
abbrev pub rows_with_run : List TableRow → ℕ → Id → List Value → List TableRow
rows_with_run rows row i [] = rows
rows_with_run rows row i (v ∷ vs) = rows_with_run (slice_set rows row (row_with (slice_index_or rows row no_row) i v)) (row + 1) i vs

-- the table with these values at the id, from the row on
abbrev pub table_with_run : TableState → ℕ → Id → List Value → TableState
table_with_run t row i vs = record t { rows = rows_with_run t.rows row i vs }

-- the values of sets, each of an entity and the first fields of its value: zeros stand behind these
abbrev pub run_values : List (Entity × List ℤ) → List Value
run_values sets = map (λ s. padded s.1) sets

-- the sets are of the first of these entities, in their order, whose indices are no lower than the least, and of values
-- with zeros past so many fields
pub record IsRunOf (es : List Entity) (arity least : ℕ) (sets : List (Entity × List ℤ)) : Type 0 where
  pub entities : map (λ s. s.0) sets ≡ take (length sets) es
  pub ordinary : All (λ s. least ≤ s.0.index) sets
  pub few : All (λ s. IsTrue (is_zero_past arity (padded s.1))) sets

-- so many of the sets, from the first on, are such a run, and no more
abbrev pub IsLongestRun : List Entity → ℕ → ℕ → List (Entity × List ℤ) → ℕ → Type 0
IsLongestRun es arity least sets n = (m : ℕ) → m ≤ length sets → IsRunOf es arity least (take m sets) → m ≤ n
