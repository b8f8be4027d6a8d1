-- A closure as a walk: each of its ids has another head and the same target.
use Rattle.std.specs.Prelude.{Bool, false, ◌≡◌, ◌||◌, ◌&&◌, List, map, IsTrue, IsFalse}
use Rattle.std.specs.List.{list_any}
use Rattle.eco_ids.specs.declared.entity.Entity.{Entity}
use Rattle.eco_ids.specs.declared.entity.TheConstants.{WITH}
use Rattle.eco_ids.specs.declared.id.Id.{Id}
use Rattle.eco_ids.specs.declared.id.Id.TheVariants.{One, Two}
use Rattle.eco_ids.specs.Order.{entity_eq, has_item, id_cmp, id_eq}
use Rattle.eco_ids.specs.World.{WorldState, has}

-- the entity whose pairs of With say what the id brings
abbrev pub head_of : Id → Entity
head_of (One e) = e
head_of (Two r t) = r

-- the id with another head
abbrev pub with_head : Id → Entity → Id
with_head (One e) x = One x
with_head (Two r t) x = Two x t

-- the id with each of the heads
abbrev pub with_heads : Id → List Entity → List Id
with_heads i xs = map (with_head i) xs

-- the entity has a pair of With
abbrev pub HasWith : WorldState → Entity → Type 0
HasWith w e = (x : Entity) × IsTrue (has w e (Two WITH x))

-- it has none
abbrev pub LacksWith : WorldState → Entity → Type 0
LacksWith w e = (x : Entity) → IsFalse (has w e (Two WITH x))

-- the ids are these, in any order
abbrev pub HasSameIds : List Id → List Id → Type 0
HasSameIds ids these = (j : Id) → has_item id_cmp ids j ≡ has_item id_cmp these j

-- what the pairs of With among the ids bring brings nothing more
abbrev pub BringNoMore : WorldState → List Id → Type 0
BringNoMore w ids = (x : Entity) → IsTrue (has_item id_cmp ids (Two WITH x)) → LacksWith w x

-- the one id is a pair of With, and j is i with its target as head
abbrev pub gives : Id → Id → Id → Bool
gives i j (One c) = false
gives i j (Two r x) = entity_eq r WITH && id_eq (with_head i x) j

-- the ids are i and what these give it, in any order
abbrev pub HasGiven : List Id → Id → List Id → Type 0
HasGiven ids i these = (j : Id) → has_item id_cmp ids j ≡ (id_eq i j || list_any (gives i j) these)

-- the ids are the own ones, the single one, and the targets of the pairs of With among these, in any order
abbrev pub HasBrought : List Id → List Id → Entity → List Id → Type 0
HasBrought ids own c these = (j : Id) → has_item id_cmp ids j ≡ (has_item id_cmp own j || (id_eq (One c) j || list_any (gives (One c) j) these))
