-- Tests of types, and the patterns by which the tables are found whose types pass.
use Rattle.std.specs.Prelude.{ℕ, ◌<◌, Bool, IsTrue, ◌&&◌, not, slice_index_or, map, take, length, List, [], ◌∷◌}
use Rattle.std.specs.List.{All, list_any, list_all}
use Rattle.eco_ids.specs.declared.entity.Entity.{Entity}
use Rattle.eco_ids.specs.declared.id.Id.{Id}
use Rattle.eco_ids.specs.declared.pattern.Part.TheVariants.{Is, Any}
use Rattle.eco_ids.specs.declared.pattern.Pattern.{Pattern}
use Rattle.eco_ids.specs.declared.pattern.Pattern.TheVariants.{One, Two}
use Rattle.eco_ids.specs.Order.{names_entity}
use Rattle.eco_index.specs.IdIndex.{any_matches}

-- one of the ids matches one of the patterns
abbrev pub type_matches_one : List Pattern → List Id → Bool
type_matches_one ps ids = list_any (any_matches ids) ps

-- each of the patterns matches one of the ids
abbrev pub matches_each : List Pattern → List Id → Bool
matches_each ps ids = list_all (any_matches ids) ps

-- the patterns of a group
abbrev pub group_at : List (List Pattern) → ℕ → List Pattern
group_at groups k = slice_index_or groups k []

-- those before a place of a group
abbrev pub earlier_in : List (List Pattern) → ℕ → ℕ → List Pattern
earlier_in groups k place = take place (group_at groups k)

-- there is such a group, and such a place in it
abbrev pub IsPlace : List (List Pattern) → ℕ → ℕ → Type 0
IsPlace groups k place = (k < length groups) × (place < length (group_at groups k))

-- each type that passes has, for each group, an id that one of its patterns matches
abbrev pub AreNeeded : (List Id → Bool) → List (List Pattern) → Type 0
AreNeeded test groups = (ids : List Id) → IsTrue (test ids) → All (λ ps. IsTrue (type_matches_one ps ids)) groups

-- the type passes, and one of the patterns matches one of its ids
abbrev pub passes_with : (List Id → Bool) → List Pattern → List Id → Bool
passes_with test ps ids = type_matches_one ps ids && test ids

-- the type passes, and none of the patterns matches one of its ids
abbrev pub passes_without : (List Id → Bool) → List Pattern → List Id → Bool
passes_without test ps ids = not (type_matches_one ps ids) && test ids

-- the patterns of all ids that name an entity
abbrev pub naming : Entity → List Pattern
naming e = One e ∷ Two (Is e) Any ∷ Two Any (Is e) ∷ []

-- each pattern in a group of its own
abbrev pub each_alone : List Pattern → List (List Pattern)
each_alone ps = map (λ p. p ∷ []) ps

-- an id of the type names the entity
abbrev pub type_names : List Id → Entity → Bool
type_names ids f = list_any (λ i. names_entity i f) ids
