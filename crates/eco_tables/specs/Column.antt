-- The values of one id, a place for each row.
use Rattle.std.specs.Prelude.{◌≡◌, ℕ, ◌+◌, ◌-◌, List, [], ◌∷◌, ◌++◌, filter, not, map, length, take, slice_index_or}
use Rattle.std.specs.Prelude.{slice_set, unwrap_or}
use Rattle.std.specs.Prelude.{if◌then◌else◌}
use Rattle.std.specs.List.{swap_remove}
use Rattle.std.specs.FinMap.Entries.{find}
use Rattle.std.specs.Ordering.{is_lt}
use Rattle.eco_ids.specs.declared.id.Id.{Id}
use Rattle.eco_ids.specs.declared.value.Value.{Value}
use Rattle.eco_ids.specs.World.{padded, zeros}
use Rattle.eco_ids.specs.Order.{id_cmp, id_eq}

-- width: so many fields are kept of each value; room: so many more values fit with no allocation
pub record ColumnState : Type 0 where
  pub id : Id
  pub width : ℕ
  pub values : List Value
  pub room : ℕ

-- the fields of the value past so many are 0
abbrev pub Fits : ℕ → Value → Type 0
Fits width v = v ≡ padded (take width v.0)

-- the id, and how wide its values are
abbrev pub kind_of : ColumnState → Id × ℕ
kind_of c = (c.id, c.width)

-- all but the room
abbrev pub contents : ColumnState → (Id × ℕ) × List Value
contents c = ((c.id, c.width), c.values)

-- the column with these values behind its own, in room that was reserved
abbrev pub lengthened : ColumnState → List Value → ColumnState
lengthened c vs = record { id = c.id; width = c.width; values = c.values ++ vs; room = c.room - length vs }

-- the column with one more value, in room that was reserved
abbrev pub pushed : ColumnState → Value → ColumnState
pushed c v = lengthened c (v ∷ [])

-- the column with this value in the row
abbrev pub column_with_value : ColumnState → ℕ → Value → ColumnState
column_with_value c row v = record { id = c.id; width = c.width; values = slice_set c.values row v; room = c.room }

-- the column with a value in the row, where it is the id's
abbrev pub written : ColumnState → ℕ → Id → Value → ColumnState
written c row i v = if id_eq c.id i then column_with_value c row v else c

-- the last value in the place of the row's
abbrev pub with_removed : ColumnState → ℕ → ColumnState
with_removed c row = record { id = c.id; width = c.width; values = swap_remove c.values row zeros; room = c.room + 1 }

-- no value, and the room of those that there were
abbrev pub emptied : ColumnState → ColumnState
emptied c = record { id = c.id; width = c.width; values = []; room = c.room + length c.values }

-- the columns with one more in its place, before the first that is not below it
abbrev pub with_column : List ColumnState → ColumnState → List ColumnState
with_column [] c = c ∷ []
with_column (d ∷ ds) c = if is_lt (id_cmp d.id c.id) then d ∷ with_column ds c else c ∷ d ∷ ds

-- the columns of the other ids
abbrev pub without_column : List ColumnState → Id → List ColumnState
without_column cs i = filter (λ c. not (id_eq c.id i)) cs

-- what the columns hold in a row: each id with its value
abbrev pub held_in : List ColumnState → ℕ → List (Id × Value)
held_in columns row = map (λ c. (c.id, slice_index_or c.values row zeros)) columns

-- the value of an id that is held, else zeros
abbrev pub value_in : List (Id × Value) → Id → Value
value_in held i = unwrap_or (find id_cmp i held) zeros

-- the same values under other ids: those of ids in both stay, and new ids have zeros
abbrev pub retyped : List Id → List (Id × Value) → List (Id × Value)
retyped ids held = map (λ i. (i, value_in held i)) ids

-- what is held, with v as the value of the id, where it is held
abbrev pub with_held : List (Id × Value) → Id → Value → List (Id × Value)
with_held held i v = map (λ p. if id_eq p.0 i then (p.0, v) else p) held
