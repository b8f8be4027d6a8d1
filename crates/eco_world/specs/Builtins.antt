-- The entities that live from the start, as they are made one by one.
use Rattle.std.specs.Prelude.{ℕ, List, [], take, Option, option_and_then, option_map, unwrap_or, slice_get}
use Rattle.eco_ids.specs.declared.edition.Edition.TheVariants.{Second}
use Rattle.eco_ids.specs.declared.id.Id.{Id}
use Rattle.eco_ids.specs.Indices.{Indexed, record_in}
use Rattle.eco_ids.specs.World.{Record, builtin_states}
use Rattle.eco_archetypes.specs.Records.{record_ids}

-- the first n built-ins, and nobody else: those of the first edition come first in the second too
abbrev pub first_entities : ℕ → ℕ → Indexed Record
first_entities limit n = record { limit = limit; indices = take n (builtin_states Second) }

-- the record of the n-th built-in, counted from 0
abbrev pub builtin_record : ℕ → Option Record
builtin_record n = record_in (slice_get (builtin_states Second) n) 0

-- its name
abbrev pub builtin_name : ℕ → Option (List ℕ)
builtin_name n = option_and_then (λ r. r.name) (builtin_record n)

-- and its ids
abbrev pub builtin_type : ℕ → List Id
builtin_type n = unwrap_or (option_map record_ids (builtin_record n)) []
