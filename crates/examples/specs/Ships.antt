-- Where ships are, how they sail, and what the body records of it.
use Rattle.std.specs.Prelude.{◌≡◌, List, [], ◌∷◌, Option, Some, None, false}
use Rattle.std.specs.List.{AllByRecursion}
use Rattle.eco_ids.specs.declared.entity.Entity.{Entity}
use Rattle.eco_ids.specs.declared.id.Id.{Id}
use Rattle.eco_ids.specs.declared.pattern.Pattern.{Pattern}
use Rattle.eco_ids.specs.declared.value.Value.{Value}
use Rattle.eco_ids.specs.Run.{Command, Set}
use Rattle.eco_query.specs.Queries.{exactly}
use Rattle.eco_systems.specs.Systems.{IsDeclared}
use Rattle.eco_bodies.specs.Own.{is_only_written}
use Rattle.eco_bodies.specs.Sums.{bounded_sum}
use Rattle.eco_frame.specs.Fields.{field, two}
use Rattle.examples.specs.declared.typed.position.Position.{Position}
use Rattle.examples.specs.declared.typed.velocity.Velocity.{Velocity}

-- the position of a value's fields
abbrev pub position_of : Value → Position
position_of v = record { east = field v 0; north = field v 1 }

-- the velocity of a value's fields
abbrev pub velocity_of : Value → Velocity
velocity_of v = record { east = field v 0; north = field v 1 }

-- where a ship is an hour later
abbrev pub sailed : Position → Velocity → Position
sailed p v = record { east = bounded_sum p.east v.east; north = bounded_sum p.north v.north }

-- the value of a position that has sailed by a velocity
abbrev pub sailed_value : Value → Value → Value
sailed_value at by = two (sailed (position_of at) (velocity_of by)).east (sailed (position_of at) (velocity_of by)).north

-- where a ship has both values, its position is set to where it is an hour later
abbrev pub recorded : Id → Entity → Option Value → Option Value → List Command
recorded position e (Some at) (Some by) = Set e position (sailed_value at by) ∷ []
recorded position e _ _ = []

pub recorded_is_declared : (i : Id) (writes : List Pattern) → writes ≡ exactly i ∷ [] → (e : Entity) (at by : Option Value)
    → AllByRecursion (IsDeclared writes false) (recorded i e at by)
recorded_is_declared i writes h e (Some at) (Some by) = (is_only_written i writes h, tt)
recorded_is_declared i writes h e (Some at) None = tt
recorded_is_declared i writes h e None by = tt
