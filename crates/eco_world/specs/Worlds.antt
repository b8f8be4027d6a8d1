-- The world that a store and the queries make that were added to it.
use Rattle.std.specs.Prelude.{List, map}
use Rattle.eco_ids.specs.declared.edition.Edition.{Edition}
use Rattle.eco_ids.specs.Indices.{Indexed}
use Rattle.eco_ids.specs.Terms.{QueryTerm}
use Rattle.eco_ids.specs.World.{WorldState, Record}
use Rattle.eco_store.specs.Answers.{asked}
use Rattle.eco_world.specs.declared.kept_query.KeptQuery.{KeptQuery}

-- the world of these entities and queries, of an edition
abbrev pub world_with : Edition → Indexed Record → List (List QueryTerm) → WorldState
world_with edition v queries = record { edition = edition; limit = v.limit; indices = v.indices; queries = queries }

-- what each of the queries asks
abbrev pub asked_by : List KeptQuery → List (List QueryTerm)
asked_by kept = map (λ k. asked k.query) kept
