-- What ids fill the `*` parts of a pattern with.
use Rattle.std.specs.Prelude.{◌≡◌, Bool, ◌&&◌, ◌||◌, List}
use Rattle.std.specs.List.{list_any}
use Rattle.eco_ids.specs.declared.entity.Entity.{Entity}
use Rattle.eco_ids.specs.declared.id.Id.{Id}
use Rattle.eco_ids.specs.declared.id.Id.TheVariants as id
use Rattle.eco_ids.specs.declared.pattern.Part.{Part}
use Rattle.eco_ids.specs.declared.pattern.Part.TheVariants.{Is, Each, Any}
use Rattle.eco_ids.specs.declared.pattern.Pattern.{Pattern}
use Rattle.eco_ids.specs.declared.pattern.Pattern.TheVariants.{One, Two}
use Rattle.eco_ids.specs.Matching.{pattern_matches}
use Rattle.eco_ids.specs.Order.{id_eq}
use Rattle.eco_index.specs.Seen.{is_seen}
use Rattle.eco_index.specs.declared.seen.Seen.{Seen}

-- stands for an entity that no `*` asks for
abbrev unasked_entity : Entity
unasked_entity = record { index = 0; generation = 0 }

-- the entity where the part is `*`, and the same for all where it is not
abbrev pub asked_for : Part → Entity → Entity
asked_for Each e = e
asked_for Any e = unasked_entity
asked_for (Is x) e = unasked_entity

-- what the `*` parts are on an id
abbrev pub filling : Pattern → Id → Id
filling (One e) i = id.One unasked_entity
filling (Two p q) (id.Two r t) = id.Two (asked_for p r) (asked_for q t)
filling (Two p q) (id.One e) = id.One unasked_entity

-- the id matches, and this is its filling
abbrev pub fills : Pattern → Id → Id → Bool
fills p x i = pattern_matches p i && id_eq (filling p i) x

-- the fillings of the ids that match have been seen, and no others
abbrev pub HasSeen : Pattern → List Id → Seen → Type 0
HasSeen p ids seen = (x : Id) → is_seen seen x ≡ list_any (fills p x) ids

-- the id's filling is seen besides, where it matches
abbrev pub SeesMore : Pattern → Id → Seen → Seen → Type 0
SeesMore p i old new = (x : Id) → is_seen new x ≡ (is_seen old x || fills p x i)
