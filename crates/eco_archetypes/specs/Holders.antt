-- Who has an id that a pattern matches, or that names an entity.
use Rattle.std.specs.Prelude.{Bool, List, map, filter}
use Rattle.std.specs.List.{list_any}
use Rattle.eco_ids.specs.declared.entity.Entity.{Entity}
use Rattle.eco_ids.specs.declared.id.Id.{Id}
use Rattle.eco_ids.specs.declared.pattern.Pattern.{Pattern}
use Rattle.eco_ids.specs.Indices.{Indexed, living}
use Rattle.eco_ids.specs.Matching.{pattern_matches}
use Rattle.eco_ids.specs.World.{Record}
use Rattle.eco_index.specs.TypeTests.{type_names}
use Rattle.eco_archetypes.specs.Records.{record_ids}

-- the ids of the record pass the test
abbrev pub passes : (List Id → Bool) → Record → Bool
passes test r = test (record_ids r)

-- the pattern matches one of the ids
abbrev pub has_match : Pattern → Record → Bool
has_match p = passes (list_any (pattern_matches p))

-- the living entities whose ids pass the test, ascending
abbrev pub entities_whose : Indexed Record → (List Id → Bool) → List Entity
entities_whose w test = map (λ x. x.0) (filter (λ x. passes test x.1) (living w))

-- the living entities that have an id which the pattern matches, ascending
abbrev pub entities_with : Indexed Record → Pattern → List Entity
entities_with w p = entities_whose w (list_any (pattern_matches p))

-- one of the ids names the entity
abbrev pub is_holder : Entity → Record → Bool
is_holder e = passes (λ ids. type_names ids e)
