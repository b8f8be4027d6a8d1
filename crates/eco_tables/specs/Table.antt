-- A table: a type, and a list of rows, each an entity and what it holds.
use Rattle.std.specs.Prelude.{◌≡◌, ℕ, zero, suc, ◌+◌, ◌≤◌, List, [], ◌∷◌, map, length, IsTrue, Option, Some, unwrap_or}
use Rattle.std.specs.List.{All}
use Rattle.std.specs.FinMap.Entries.{find}
use Rattle.eco_ids.specs.declared.entity.Entity.{Entity}
use Rattle.eco_ids.specs.declared.id.Id.{Id}
use Rattle.eco_ids.specs.declared.value.Value.{Value}
use Rattle.eco_ids.specs.Order.{id_cmp, has_item, is_ascending}
use Rattle.eco_tables.specs.Column.{ColumnState, Fits, kind_of, held_in, retyped}

-- an entity, and each id of the table's type with its value
pub record TableRow : Type 0 where
  pub entity : Entity
  pub held : List (Id × Value)

-- widths: how many fields are kept of the values of each id; room: so many more rows fit with no allocation
pub record TableState : Type 0 where
  pub ids : List Id
  pub widths : List ℕ
  pub rows : List TableRow
  pub room : ℕ

-- the table of this type without rows and room
abbrev pub empty_table : List Id → List ℕ → TableState
empty_table ids widths = record { ids = ids; widths = widths; rows = []; room = 0 }

-- each id with its width
abbrev pub paired : List Id → List ℕ → List (Id × ℕ)
paired [] ws = []
paired (i ∷ is) [] = []
paired (i ∷ is) (w ∷ ws) = (i, w) ∷ paired is ws

-- the width of an id of the type
abbrev pub width_in : TableState → Id → Option ℕ
width_in t i = find id_cmp i (paired t.ids t.widths)

-- the value fits the id, where the type has the id
abbrev pub FitsId : TableState → Id → Value → Type 0
FitsId t i v = (n : ℕ) → width_in t i ≡ Some n → Fits n v

-- of an id's values at least one field is kept, where the type has the id
abbrev pub StoresFields : TableState → Id → Type 0
StoresFields t i = (n : ℕ) → width_in t i ≡ Some n → 1 ≤ n

-- ids that both types have are as wide in both
abbrev pub Agree : TableState → TableState → Type 0
Agree t u = (i : Id) (m n : ℕ) → width_in t i ≡ Some m → width_in u i ≡ Some n → m ≡ n

-- the rows of these entities, from the row k of the columns on, with what the columns hold
abbrev pub rows_from : List ColumnState → ℕ → List Entity → List TableRow
rows_from columns k [] = []
rows_from columns k (e ∷ es) = record { entity = e; held = held_in columns k } ∷ rows_from columns (suc k) es

-- the row under another type
abbrev pub retyped_row : List Id → TableRow → TableRow
retyped_row ids r = record { entity = r.entity; held = retyped ids r.held }

-- the rows of a table: an id without a column holds zeros
abbrev pub rows_of : List Id → List ColumnState → List Entity → List TableRow
rows_of ids columns entities = map (retyped_row ids) (rows_from columns 0 entities)

-- how wide the columns of an id are, 0 where it has none
abbrev pub width_among : List (Id × ℕ) → Id → ℕ
width_among kinds i = unwrap_or (find id_cmp i kinds) 0

-- the table under a type with these columns, the entities of its rows, and room
abbrev pub table_of : List Id → List ColumnState → List Entity → ℕ → TableState
table_of ids columns entities room = record {
  ids = ids;
  widths = map (width_among (map kind_of columns)) ids;
  rows = rows_of ids columns entities;
  room = room;
}

-- the ids that have a width which is not 0, with it
abbrev pub kinds_of : List Id → List ℕ → List (Id × ℕ)
kinds_of [] ws = []
kinds_of (i ∷ is) [] = []
kinds_of (i ∷ is) (zero ∷ ws) = kinds_of is ws
kinds_of (i ∷ is) (suc w ∷ ws) = (i, suc w) ∷ kinds_of is ws

-- columns of one id are as wide here and there
abbrev pub ColumnsAgree : List ColumnState → List ColumnState → Type 0
ColumnsAgree cs ds = All (λ c. All (λ d. c.id ≡ d.id → c.width ≡ d.width) ds) cs

-- columns of some of the ids, ascending, each of at least one field
pub record AreKinds (ids : List Id) (kinds : List (Id × ℕ)) : Type 0 where
  pub ascending : IsTrue (is_ascending id_cmp (map (λ k. k.0) kinds))
  pub within : (i : Id) → IsTrue (has_item id_cmp (map (λ k. k.0) kinds) i) → IsTrue (has_item id_cmp ids i)
  pub wide : (i : Id) → IsTrue (has_item id_cmp (map (λ k. k.0) kinds) i) → 1 ≤ width_among kinds i

-- columns of some of the ids, each as long as the entities, with the room that is promised
pub record HasShape (ids : List Id) (entities : List Entity) (capacity : ℕ) (columns : List ColumnState) (room : ℕ) : Type 0 where
  pub kinds : AreKinds ids (map kind_of columns)
  pub even : All (λ c. length c.values ≡ length entities) columns
  pub roomy : All (λ c. room ≤ c.room) columns
  pub rows_room : length entities + room ≤ capacity

-- the entities of rows, in their order
abbrev pub entities_of : List TableRow → List Entity
entities_of rows = map (λ r. r.entity) rows

-- each row has a value for each id of the type
abbrev pub HasIds : List Id → TableRow → Type 0
HasIds ids r = map (λ p. p.0) r.held ≡ ids

-- each row of the table has a value for each id of its type
abbrev pub RowsHaveIds : TableState → Type 0
RowsHaveIds t = All (HasIds t.ids) t.rows

-- the ids of the table's type ascend, each once
abbrev pub TypeAscends : TableState → Type 0
TypeAscends t = IsTrue (is_ascending id_cmp t.ids)
