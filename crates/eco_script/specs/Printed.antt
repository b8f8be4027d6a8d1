-- The text of a world.
use Rattle.std.specs.Prelude.{◌≡◌, ℕ, List, [], ◌++◌, length, map, flat_map, codes, decimal, Option}
use Rattle.std.specs.Option.{option_map_or}
use Rattle.eco_ids.specs.declared.entity.Entity.{Entity}
use Rattle.eco_ids.specs.declared.id.Id.{Id}
use Rattle.eco_ids.specs.declared.id.Id.TheVariants.{One, Two}
use Rattle.eco_ids.specs.declared.value.Value.{Value}
use Rattle.eco_ids.specs.Data.{arity, arity_of, value_of}
use Rattle.eco_ids.specs.Layout.{ListedTable, IsLayout}
use Rattle.eco_ids.specs.Step.{own_name}
use Rattle.eco_ids.specs.Text.{entity_text, value_text}
use Rattle.eco_ids.specs.World.{WorldState, held_by, living}

-- an entity by its name, or by its handle where it has none: `Heron` or `#10.0`
abbrev pub printed_name : WorldState → Entity → List ℕ
printed_name w e = option_map_or (λ name. name) (own_name w e) (entity_text e)

-- an id by the names of its entities: `Ship` or `(MooredAt, Quay)`
abbrev pub named_id : WorldState → Id → List ℕ
named_id w (One e) = printed_name w e
named_id w (Two r t) = codes "(" ++ printed_name w r ++ codes ", " ++ printed_name w t ++ codes ")"

-- a name, behind a space
abbrev pub name_behind : Option (List ℕ) → List ℕ
name_behind name = option_map_or (λ bytes. codes " " ++ bytes) name []

-- how many fields a component's values have
abbrev pub arity_behind : Option ℕ → List ℕ
arity_behind arity = option_map_or (λ fields. codes ", arity " ++ decimal fields) arity []

-- a value, with so many of its fields: ` = 3 -4`
abbrev pub value_behind : Option ℕ → Option Value → List ℕ
value_behind arity value = option_map_or (λ fields. option_map_or (λ v. codes " = " ++ value_text fields v) value []) arity []

-- an id of an entity, with its value where it is data
abbrev pub held_line : WorldState → Entity → Id → List ℕ
held_line w e i = codes "    " ++ named_id w i ++ value_behind (arity w i) (value_of w e i) ++ codes "\n"

-- an entity, and its ids
abbrev pub entity_lines : WorldState → Entity → List ℕ
entity_lines w e = entity_text e ++ name_behind (own_name w e) ++ arity_behind (arity_of w e) ++ codes "\n"
    ++ flat_map (held_line w e) (map (λ h. h.0) (held_by w e))

-- an id of a table
abbrev pub id_line : WorldState → Id → List ℕ
id_line w i = codes "    " ++ named_id w i ++ codes "\n"

-- a table, with how many rows it has: `table of 2`; and its ids
abbrev pub table_lines : WorldState → ListedTable → List ℕ
table_lines w t = codes "table of " ++ decimal (length t.entities) ++ codes "\n" ++ flat_map (id_line w) t.ids

-- all that live, ascending, and these tables
abbrev pub world_text : WorldState → List ListedTable → List ℕ
world_text w tables = flat_map (entity_lines w) (map (λ p. p.0) (living w)) ++ flat_map (table_lines w) tables

-- the text of the world, by a layout of it
abbrev pub Prints : WorldState → List ℕ → Type 0
Prints w text = (tables : List ListedTable) × IsLayout w tables × (text ≡ world_text w tables)
