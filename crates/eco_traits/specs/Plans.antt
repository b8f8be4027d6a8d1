-- What a delete does: who dies, and which types change; and how that is found among the nodes.
use Rattle.std.specs.Prelude.{◌≡◌, Bool, not, ◌↔◌, IsTrue, IsFalse, List, [], ◌∷◌, map, filter, flat_map, Option, None, Some}
use Rattle.std.specs.Prelude.{if◌then◌else◌}
use Rattle.std.specs.List.{All, Contains, list_any}
use Rattle.eco_ids.specs.declared.entity.Entity.{Entity}
use Rattle.eco_ids.specs.declared.id.Id.{Id}
use Rattle.eco_ids.specs.Cleanup.{Doomed, names_any}
use Rattle.eco_ids.specs.Indices.{Indexed, record_of}
use Rattle.eco_ids.specs.Order.{entity_cmp, has_item, id_cmp, is_ascending}
use Rattle.eco_ids.specs.World.{Record}
use Rattle.eco_tables.specs.Table.{TableState}
use Rattle.eco_tables.specs.Tables.{slot_of}
use Rattle.eco_archetypes.specs.Records.{record_ids}
use Rattle.eco_archetypes.specs.declared.type_change.TypeChange.{TypeChange}
use Rattle.eco_traits.specs.Nodes.{is_falling, taken_among}
use Rattle.eco_archetypes.specs.Worlds.{world_of}
use Rattle.eco_traits.specs.declared.node.Node.{Node}
use Rattle.eco_traits.specs.declared.node.Node.TheVariants.{Root, Falling, Named}

-- some id of the type goes, and the type changes into the same without the ids that go
pub record TakesOut (goes : Id → Bool) (c : TypeChange) : Type 0 where
  pub there : IsTrue (list_any goes c.from)
  pub taken : c.to ≡ filter (λ i. not (goes i)) c.from

-- the types that change ascend
abbrev pub Ascend : List TypeChange → Type 0
Ascend changes = All (λ c. IsTrue (is_ascending id_cmp c.from)) changes

-- each change takes out what goes, and the type of every living entity that stays and has an id that goes is changed
pub record TakesOutOfAll
    (v : Indexed Record) (dies : Entity → Bool) (goes : Id → Bool) (changes : List TypeChange) : Type 0 where
  pub each : All (TakesOut goes) changes
  pub ascend : Ascend changes
  pub all :
      (e : Entity) (r : Record) → record_of v e ≡ Some r → IsFalse (dies e)
      → IsTrue (list_any goes (record_ids r)) → Contains (map (λ c. c.from) changes) (record_ids r)

-- those die whom a delete of the roots takes, and the changes take the ids that name them out of the types of the others
pub record IsDeletePlan
    (v : Indexed Record) (IsRoot : Entity → Type 0) (dead : List Entity) (changes : List TypeChange) : Type 0 where
  pub doomed : (e : Entity) → IsTrue (has_item entity_cmp dead e) ↔ Doomed (world_of v) IsRoot e
  pub taken : TakesOutOfAll v (has_item entity_cmp dead) (names_any dead) changes

-- ---- found among the nodes

-- the ids that name none of the dead
abbrev pub spared : List Entity → List Id → List Id
spared dead ids = filter (λ i. not (names_any dead i)) ids

-- the table's type loses the others, where there is a table
abbrev pub change_in : List Entity → Option TableState → List TypeChange
change_in dead None = []
change_in dead (Some t) = record { from = t.ids; to = spared dead t.ids } ∷ []

-- likewise of a table that is named and does not fall
abbrev pub changes_at : List (Option TableState) → List Node → Node → List TypeChange
changes_at slots nodes (Root e) = []
changes_at slots nodes (Falling n) = []
changes_at slots nodes (Named n) = if is_falling nodes n then [] else change_in (taken_among slots nodes) (slot_of slots n)

-- of all such tables
abbrev pub changes_of : List (Option TableState) → List Node → List TypeChange
changes_of slots nodes = flat_map (changes_at slots nodes) nodes
