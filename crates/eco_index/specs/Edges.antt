-- Which table an id more or less leads to.
use Rattle.std.specs.Prelude.{◌≡◌, ℕ, Bool, false, cond, ◌&&◌, ◌||◌, List, Option, None, Some, nat_eq, slice_get}
use Rattle.std.specs.Map.{lookup}
use Rattle.eco_ids.specs.declared.id.Id.{Id}
use Rattle.eco_ids.specs.contracts.id.IdPartialEq.TheImpl as id_impl
use Rattle.eco_ids.specs.Order.{id_cmp, has_item, with_item, without_item}

-- `==` of ids
abbrev pub same_id : Id → Id → Bool
same_id = (id_impl.eq-value).it

-- an edge that is there leads to this slot
abbrev pub leads_to : ℕ → Option ℕ → Bool
leads_to n None = false
leads_to n (Some m) = nat_eq n m

abbrev pub edge_of : Option (List (Id × ℕ)) → Id → Option ℕ
edge_of None i = None
edge_of (Some edges) i = lookup (same_id i) edges

-- the slot to which the id leads from a slot
abbrev pub edge : List (List (Id × ℕ)) → ℕ → Id → Option ℕ
edge lists n i = edge_of (slice_get lists n) i

-- each edge leads back
abbrev pub IsTwofold : List (List (Id × ℕ)) → Type 0
IsTwofold lists = (n m : ℕ) (i : Id) → edge lists n i ≡ Some m → edge lists m i ≡ Some n

abbrev pub SameEdges : List (List (Id × ℕ)) → List (List (Id × ℕ)) → Type 0
SameEdges old new = (n : ℕ) (j : Id) → edge new n j ≡ edge old n j

-- one edge is so from now on
abbrev pub Puts : List (List (Id × ℕ)) → List (List (Id × ℕ)) → ℕ → Id → Option ℕ → Type 0
Puts old new slot i to = (n : ℕ) (j : Id) →
    edge new n j ≡ cond (nat_eq n slot && same_id i j) to (edge old n j)

-- the id leads from either slot to the other
abbrev pub Links : List (List (Id × ℕ)) → List (List (Id × ℕ)) → ℕ → Id → ℕ → Type 0
Links old new a i b = (n : ℕ) (j : Id) →
    edge new n j
    ≡ cond (nat_eq n b && same_id i j) (Some a) (cond (nat_eq n a && same_id i j) (Some b) (edge old n j))

-- the edges back of these edges of a slot are gone, and no other
abbrev pub TakesBack : List (Id × ℕ) → List (List (Id × ℕ)) → List (List (Id × ℕ)) → Type 0
TakesBack own old new = (n : ℕ) (j : Id) →
    edge new n j ≡ cond (leads_to n (lookup (same_id j) own)) None (edge old n j)

-- all edges from the slot and to it are gone, and no other
abbrev pub Cuts : List (List (Id × ℕ)) → List (List (Id × ℕ)) → ℕ → Type 0
Cuts old new slot = (n : ℕ) (j : Id) →
    edge new n j ≡ cond (nat_eq n slot || leads_to slot (edge old n j)) None (edge old n j)

-- the type with the id, or without it where it has it
abbrev pub toggled : List Id → Id → List Id
toggled ids i = cond (has_item id_cmp ids i) (without_item id_cmp ids i) (with_item id_cmp ids i)

-- the type with the second id in the place of the first
abbrev pub exchanged : List Id → Id → Id → List Id
exchanged ids i j = with_item id_cmp (without_item id_cmp ids i) j

-- each edge leads from a table that is there to one that is there, whose type has the id more or less
abbrev pub IsGraph : (ℕ → Option (List Id)) → List (List (Id × ℕ)) → Type 0
IsGraph types lists = (n m : ℕ) (i : Id) → edge lists n i ≡ Some m →
    (ids : List Id) × (types n ≡ Some ids) × (types m ≡ Some (toggled ids i))
