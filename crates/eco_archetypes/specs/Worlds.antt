-- The world that a store keeps.
use Rattle.std.specs.Prelude.{[]}
use Rattle.eco_ids.specs.declared.edition.Edition.TheVariants.{First}
use Rattle.eco_ids.specs.Indices.{Indexed}
use Rattle.eco_ids.specs.World.{WorldState, Record}

-- the world of these entities, of the first edition and without queries: what is said by it of a store depends on neither
abbrev pub world_of : Indexed Record → WorldState
world_of v = record { edition = First; limit = v.limit; indices = v.indices; queries = [] }
