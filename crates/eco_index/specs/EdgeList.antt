-- The edges of one slot.
use Rattle.std.specs.Prelude.{ℕ, List, [], ◌∷◌, ⊤}
use Rattle.std.specs.List.{IsDistinct}
use Rattle.std.specs.Map.{keys_of}
use Rattle.eco_ids.specs.declared.id.Id.{Id}
use Rattle.eco_index.specs.declared.edges.edge_list.Kept.{Kept}
use Rattle.eco_index.specs.declared.edges.edge_list.Kept.TheVariants as kept
use Rattle.eco_index.specs.Edges.{same_id}

-- the edges: each an id, and the slot to which it leads
abbrev pub edges_of : Kept → List (Id × ℕ)
edges_of kept.Empty = []
edges_of (kept.One edge) = edge ∷ []
edges_of (kept.Few edges) = edges.items
edges_of (kept.Many edges) = edges.value.entries

-- no id leads to two slots: of a map, that is known
abbrev pub HasEachIdOnce : Kept → Type 0
HasEachIdOnce kept.Empty = ⊤
HasEachIdOnce (kept.One edge) = ⊤
HasEachIdOnce (kept.Few edges) = IsDistinct same_id (keys_of edges.items)
HasEachIdOnce (kept.Many edges) = ⊤
