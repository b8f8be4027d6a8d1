-- The values that a script's answers show.
use Rattle.std.specs.Prelude.{ℕ, Option, option_map, option_and_then}
use Rattle.eco_ids.specs.declared.entity.Entity.{Entity}
use Rattle.eco_ids.specs.declared.id.Id.{Id}
use Rattle.eco_ids.specs.declared.value.Value.{Value}
use Rattle.eco_ids.specs.Data.{arity, value_of}
use Rattle.eco_ids.specs.World.{WorldState}

-- a value, with how many of its fields are shown
abbrev pub Shown : Type 0
Shown = ℕ × Value

-- the value that the entity has for the id, shown with as many fields as the id's arity; none, where it has no such id or
-- the id is no data
abbrev pub shown_value : WorldState → Entity → Id → Option Shown
shown_value w e i = option_and_then (λ fields. option_map (λ v. (fields, v)) (value_of w e i)) (arity w i)
