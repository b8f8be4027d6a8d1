-- The records of a store's entities, and how single ones change.
use Rattle.std.specs.Prelude.{◌≡◌, Bool, Result, List, [], map, Option, is_some, option_map, unwrap_or, OnErr, OnOk}
use Rattle.std.specs.FinMap.Entries.{find}
use Rattle.eco_ids.specs.declared.entity.Entity.{Entity}
use Rattle.eco_ids.specs.declared.id.Id.{Id}
use Rattle.eco_ids.specs.declared.value.Value.{Value}
use Rattle.eco_ids.specs.Indices.{changed, Indexed, record_of}
use Rattle.eco_ids.specs.Order.{id_cmp}
use Rattle.eco_ids.specs.World.{Record}
use Rattle.eco_tables.specs.Column.{retyped}
use Rattle.eco_index.specs.Edges.{exchanged, toggled}

-- what a living entity holds; nothing where it isn't living
abbrev pub held_in_store : Indexed Record → Entity → List (Id × Value)
held_in_store w e = unwrap_or (option_map (λ r. r.held) (record_of w e)) []

-- a living entity has the id
abbrev pub has_in_store : Indexed Record → Entity → Id → Bool
has_in_store w e i = is_some (find id_cmp i (held_in_store w e))

-- the ids of a record
abbrev pub record_ids : Record → List Id
record_ids r = map (λ p. p.0) r.held

-- the ids of a living entity
abbrev pub type_in_store : Indexed Record → Entity → Option (List Id)
type_in_store w e = option_map record_ids (record_of w e)

-- these ids: values of ids that were there stay, and new ids hold zeros
abbrev pub with_type : List Id → Record → Record
with_type ids r = record r { held = retyped ids r.held }

-- the id comes, with zeros, where it isn't there, and goes where it is; the other values stay
abbrev pub with_toggled : Id → Record → Record
with_toggled i r = with_type (toggled (record_ids r) i) r

-- the store after the id beside an entity came to it, with zeros, or went
abbrev pub stepped : Indexed Record → Entity × Id → Indexed Record
stepped w s = changed w s.0 (with_toggled s.1)

-- the second id comes, with zeros, in the place of the first; the other values stay
abbrev pub with_exchanged : Id → Id → Record → Record
with_exchanged i j r = with_type (exchanged (record_ids r) i j) r

-- the store is this one afterwards, or, where memory is refused, as it was
pub record Tries {A E : Type 0} (old w : Indexed Record) (r : Result A E) (new : Indexed Record) : Type 0 where
  pub ok : OnOk r (new ≡ w)
  pub err : OnErr r (new ≡ old)
