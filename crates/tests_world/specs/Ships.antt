-- How far ships reach.
use Rattle.eco_ids.specs.declared.value.Value.{Value}
use Rattle.eco_frame.specs.Fields.{field}
use Rattle.tests_world.specs.declared.bounds.Bounds.{Bounds}

-- the bounds of a value's fields
abbrev pub bounds_of : Value → Bounds
bounds_of v =
    record { west = field v 0; east = field v 1; south = field v 2; north = field v 3; low = field v 4; high = field v 5 }
