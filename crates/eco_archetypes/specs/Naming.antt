-- Whom the types of tables name.
use Rattle.std.specs.Prelude.{Bool, false, List, Option, None, Some}
use Rattle.std.specs.List.{list_any}
use Rattle.eco_ids.specs.declared.entity.Entity.{Entity}
use Rattle.eco_tables.specs.Table.{TableState}
use Rattle.eco_index.specs.TypeTests.{type_names}

-- there is a table, and an id of its type names the entity
abbrev pub names_in : Entity → Option TableState → Bool
names_in e None = false
names_in e (Some t) = type_names t.ids e

-- an id of some table's type names the entity
abbrev pub is_named_by_some : List (Option TableState) → Entity → Bool
is_named_by_some slots e = list_any (names_in e) slots
