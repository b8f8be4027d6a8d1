-- All entities of a type get another.
use Rattle.std.specs.Prelude.{◌≡◌, ◌≢◌, Bool, List, map, fold, Some, IsTrue, if◌then◌else◌}
use Rattle.std.specs.List.{All, list_any}
use Rattle.eco_ids.specs.World.{Record}
use Rattle.eco_ids.specs.declared.entity.Entity.{Entity}
use Rattle.eco_ids.specs.declared.id.Id.{Id}
use Rattle.eco_ids.specs.declared.pattern.Pattern.{Pattern}
use Rattle.eco_ids.specs.Indices.{Indexed, map_state}
use Rattle.eco_ids.specs.Matching.{pattern_matches}
use Rattle.eco_index.specs.TypeMap.{same_ids}
use Rattle.eco_archetypes.specs.declared.type_change.TypeChange.{TypeChange}
use Rattle.eco_archetypes.specs.Records.{record_ids, type_in_store, with_type}

-- an entity of the type that goes has the type that comes: values of ids that both have stay, and new ids hold zeros
abbrev pub changed_record : TypeChange → Record → Record
changed_record c r = if same_ids (record_ids r) c.from then with_type c.to r else r

-- the store after a change of every living entity
abbrev pub after_change : Indexed Record → TypeChange → Indexed Record
after_change w c = record w { indices = map (map_state (changed_record c)) w.indices }

-- the store after these changes, one after another
abbrev pub after_changes : Indexed Record → List TypeChange → Indexed Record
after_changes w cs = fold after_change w cs

-- no type that comes is one that goes
abbrev pub IsOneWay : List TypeChange → Type 0
IsOneWay cs = All (λ c. All (λ d. c.to ≢ d.from) cs) cs

-- some living entity has this type, and it passes the test
abbrev pub IsTypeBy : Indexed Record → (List Id → Bool) → List Id → Type 0
IsTypeBy w test ids = IsTrue (test ids) × (e : Entity) × (type_in_store w e ≡ Some ids)

-- some living entity has this type, and the pattern matches one of its ids
abbrev pub IsTypeWith : Indexed Record → Pattern → List Id → Type 0
IsTypeWith w p = IsTypeBy w (list_any (pattern_matches p))
