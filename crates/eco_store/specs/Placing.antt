-- Steps of a store's calls on the index of its entities.
use Rattle.std.specs.Prelude.{Option, Some, None}
use Rattle.eco_ids.specs.declared.entity.Entity.{Entity}
use Rattle.eco_ids.specs.Indices.{changed, Indexed}
use Rattle.eco_entities.specs.declared.place.Place.{Place}
use Rattle.eco_entities.specs.Registration.{Registration, placed}

-- the entity that came to the place, if one did, is placed there
abbrev pub fixed : Indexed Registration → Option Entity → Place → Indexed Registration
fixed w None p = w
fixed w (Some e) p = changed w e (placed p)
