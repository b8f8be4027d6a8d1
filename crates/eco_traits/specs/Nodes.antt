-- How deaths lead to deaths, table by table.
use Rattle.std.proofs.Common.{◌≡◌, ℕ, Bool, true, false, not, ◌&&◌, ◌||◌, List, [], ◌∷◌, flat_map, ◌+◌, Option, ap, sym, ◌∙◌}
use Rattle.std.proofs.Common.{true≢false, if◌then◌else◌, IsTrue}
use Rattle.std.specs.Prelude.{◌↔◌}
use Rattle.std.specs.List.{list_any}
use Rattle.std.proofs.lemmas.Bool.Decides.{Decides-eqb}
use Rattle.eco_ids.specs.declared.entity.Entity.{Entity}
use Rattle.eco_ids.specs.declared.entity.TheConstants.{DELETE}
use Rattle.eco_ids.specs.Least.{Least}
use Rattle.eco_ids.specs.declared.pattern.Pattern.{Pattern}
use Rattle.eco_ids.specs.OrderLaws.{entity_ties}
use Rattle.eco_ids.specs.World.{WorldState}
use Rattle.eco_ids.proofs.Overlaps.{entity_eq_is}
use Rattle.eco_tables.specs.Table.{TableState, entities_of}
use Rattle.eco_tables.specs.Tables.{slot_of, table_in}
use Rattle.eco_index.specs.TypeTests.{type_names}
use Rattle.eco_archetypes.specs.Archetypes.{is_found, is_found_by, has_rows}
use Rattle.eco_traits.specs.Policies.{names_on}
use Rattle.eco_traits.specs.declared.node.Node.{Node}
use Rattle.eco_traits.specs.declared.node.Node.TheVariants.{Root, Falling, Named}
use Rattle.eco_traits.specs.contracts.node.NodePartialEq.TheImpl as node_impl

-- the table in the slot has rows, and its type names the member
abbrev pub is_naming : List (Option TableState) → Entity → ℕ → Bool
is_naming slots m n = is_found_by (λ ids. type_names ids m) (slot_of slots n)

-- its type has an id that names the member under the policy Delete
abbrev pub falls : WorldState → List (Option TableState) → Entity → ℕ → Bool
falls w slots m n = list_any (names_on w DELETE m) (table_in slots n).ids

-- how the table of a slot whose type names the member is noted
abbrev pub named_node : WorldState → List (Option TableState) → Entity → ℕ → Node
named_node w slots m n = if falls w slots m n then Falling n else Named n

-- likewise, where that has rows
abbrev pub nodes_at : WorldState → List (Option TableState) → Entity → ℕ → List Node
nodes_at w slots m n = if has_rows slots n then named_node w slots m n ∷ [] else []

-- the tables whose types name the entity, each as it is noted
abbrev pub touches : WorldState → List (Option TableState) → Entity → Node → Bool
touches w slots e (Root x) = false
touches w slots e (Falling n) = is_naming slots e n && falls w slots e n
touches w slots e (Named n) = is_naming slots e n && not (falls w slots e n)

-- the tables whose types have an id that the pattern matches, as they are noted of the entity
abbrev pub touches_by : WorldState → List (Option TableState) → Entity → Pattern → Node → Bool
touches_by w slots e p (Root x) = false
touches_by w slots e p (Falling n) = is_found p (slot_of slots n) && falls w slots e n
touches_by w slots e p (Named n) = is_found p (slot_of slots n) && not (falls w slots e n)

-- a root leads to the tables whose types name it, and a table that falls to the tables whose types name one who stands in it
abbrev pub leads : WorldState → List (Option TableState) → Node → Node → Bool
leads w slots (Root m) b = touches w slots m b
leads w slots (Falling n) b = list_any (λ e. touches w slots e b) (entities_of (table_in slots n).rows)
leads w slots (Named n) b = false

-- the nodes of so many slots, counted from n
abbrev pub nodes_from : ℕ → List (Option TableState) → List Node
nodes_from n [] = []
nodes_from n (o ∷ os) = Falling n ∷ Named n ∷ nodes_from (n + 1) os

-- all that anything leads to
abbrev pub all_nodes : List (Option TableState) → List Node
all_nodes slots = nodes_from 0 slots

-- the node is one of these
abbrev pub is_one_of : List Node → Node → Bool
is_one_of nodes b = list_any ((node_impl.eq-value).it b) nodes

-- the delete begins with the death of the entity
abbrev pub is_root : List Node → Entity → Bool
is_root nodes e = is_one_of nodes (Root e)

-- deaths begin with a root, or with all who stand in a table
abbrev pub is_start : Node → Bool
is_start (Root e) = true
is_start (Falling n) = true
is_start (Named n) = false

abbrev pub AreStarts : List Node → Type 0
AreStarts nodes = (a : Node) → IsTrue (is_one_of nodes a) → IsTrue (is_start a)

-- all who stand in the table of the slot die
abbrev pub is_falling : List Node → ℕ → Bool
is_falling nodes n = is_one_of nodes (Falling n)

-- who dies by a node: a root, or all who stand in a table that falls
abbrev pub taken_by : List (Option TableState) → Node → List Entity
taken_by slots (Root e) = e ∷ []
taken_by slots (Falling n) = entities_of (table_in slots n).rows
taken_by slots (Named n) = []

-- who dies by these nodes
abbrev pub taken_among : List (Option TableState) → List Node → List Entity
taken_among slots nodes = flat_map (taken_by slots) nodes

-- those that pass a test come to others
abbrev pub AddsNodes : (Node → Bool) → List Node → List Node → Type 0
AddsNodes test old new = (b : Node) → is_one_of new b ≡ (is_one_of old b || test b)

-- the nodes are the least set that holds these and, with each node, whatever it leads to
abbrev pub IsSearch : WorldState → List (Option TableState) → List Node → List Node → Type 0
IsSearch w slots starts nodes = (a : Node) → IsTrue (is_one_of nodes a) ↔ Least (λ r. IsTrue (is_one_of starts r)) (λ x b. IsTrue (leads w slots x b)) a

-- equal nodes are the same
pub node_same : (a b : Node) → (node_impl.eq-value).it a b ≡ true → a ≡ b
node_same (Root a) (Root b) h = ap Root (entity_eq_is a b (sym (entity_ties a b) ∙ h))
node_same (Root a) (Falling b) h = absurd (true≢false (sym h))
node_same (Root a) (Named b) h = absurd (true≢false (sym h))
node_same (Falling a) (Root b) h = absurd (true≢false (sym h))
node_same (Falling a) (Falling b) h = ap Falling ((Decides-eqb a b).0 h)
node_same (Falling a) (Named b) h = absurd (true≢false (sym h))
node_same (Named a) (Root b) h = absurd (true≢false (sym h))
node_same (Named a) (Falling b) h = absurd (true≢false (sym h))
node_same (Named a) (Named b) h = ap Named ((Decides-eqb a b).0 h)
