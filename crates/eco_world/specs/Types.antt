-- The type of an entity.
use Rattle.std.specs.Prelude.{List, map}
use Rattle.eco_ids.specs.declared.entity.Entity.{Entity}
use Rattle.eco_ids.specs.declared.id.Id.{Id}
use Rattle.eco_ids.specs.World.{WorldState, held_by}

-- the entity's ids
abbrev pub type_of : WorldState → Entity → List Id
type_of w e = map (λ p. p.0) (held_by w e)
