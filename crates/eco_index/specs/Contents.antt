-- What contracts see of the indices: what they keep.
use Rattle.std.specs.Prelude.{ℕ, Bool, List, nat_eq}
use Rattle.std.specs.HashMap.{get}
use Rattle.eco_ids.specs.declared.id.Id.{Id}
use Rattle.eco_index.specs.declared.edges.Edges.{Edges}
use Rattle.eco_index.specs.declared.id_index.IdIndex.{IdIndex}
use Rattle.eco_index.specs.declared.type_map.TypeMap.{TypeMap}
use Rattle.eco_index.specs.IdIndex.{Lists, has_slot, lists_of}

-- the slots that are listed under each fingerprint
abbrev pub slots_by_mark : TypeMap → ℕ → ℕ → Bool
slots_by_mark t mark n = has_slot (get nat_eq t.slots mark) n

-- the slots that are listed under each pattern
abbrev pub lists_in : IdIndex → Lists
lists_in i = lists_of i.slots

-- the edges of each slot
abbrev pub edge_lists : Edges → List (List (Id × ℕ))
edge_lists e = e.lists.items
