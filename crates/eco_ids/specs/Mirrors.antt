-- Pairs of symmetric relationships, and what may not come together in one entity. In a world of the first edition no id has a
-- mirror and nothing clashes.
use Rattle.std.specs.Prelude.{Bool, false, ◌&&◌, ◌||◌, List, Option, Some, None, if◌then◌else◌}
use Rattle.std.specs.List.{list_any}
use Rattle.eco_ids.specs.declared.entity.Entity.{Entity}
use Rattle.eco_ids.specs.declared.entity.TheConstants.{ACYCLIC, EXCLUSIVE, SYMMETRIC, WITH}
use Rattle.eco_ids.specs.declared.id.Id.{Id}
use Rattle.eco_ids.specs.declared.id.Id.TheVariants.{One, Two}
use Rattle.eco_ids.specs.Edition.{has_symmetric}
use Rattle.eco_ids.specs.Order.{entity_eq, has_item, id_cmp}
use Rattle.eco_ids.specs.World.{WorldState, has, living, held_by, is_symmetric, is_exclusive, is_acyclic}

-- a symmetric pair stands at its target too, with the holder as target there
abbrev pub mirrored_pair : WorldState → Entity → Id → Option (Entity × Id)
mirrored_pair w e (One c) = None
mirrored_pair w e (Two r t) = if is_symmetric w r then Some (t, Two r e) else None

-- who has the mirror of an id on e, and what it is there. A pair with itself is its own mirror
abbrev pub mirror_of : WorldState → Entity → Id → Option (Entity × Id)
mirror_of w e i = if has_symmetric w.edition then mirrored_pair w e i else None

-- there is a mirror, and it passes the test
abbrev pub at_mirror : (Entity → Id → Bool) → Option (Entity × Id) → Bool
at_mirror test None = false
at_mirror test (Some m) = test m.0 m.1

-- the id is among those that go, or its mirror is
abbrev pub goes_too : WorldState → (Entity → Id → Bool) → Entity → Id → Bool
goes_too w goes e i = at_mirror goes (mirror_of w e i) || goes e i

-- a pair of With
abbrev pub is_with : Id → Bool
is_with (One c) = false
is_with (Two r t) = entity_eq r WITH

-- it is symmetric, and exclusive, acyclic or tied to another by With besides
abbrev pub is_clashing : WorldState → Entity → Bool
is_clashing w r =
    is_symmetric w r
    && (is_exclusive w r || (is_acyclic w r || (list_any (λ h. is_with h.0) (held_by w r) || list_any (λ p. has w p.0 (Two WITH r)) (living w))))

-- some living entity is so
abbrev pub has_clash : WorldState → Bool
has_clash w = has_symmetric w.edition && list_any (λ p. is_clashing w p.0) (living w)

-- ---- the same at a look: what a closure s would make clash at e, in a world in which nothing clashes

-- a pair of With whose target is symmetric
abbrev pub ties_symmetric : WorldState → Id → Bool
ties_symmetric w (One c) = false
ties_symmetric w (Two r t) = entity_eq r WITH && is_symmetric w t

-- e would be exclusive, acyclic or tied by With
abbrev pub would_be_barred : WorldState → Entity → List Id → Bool
would_be_barred w e s =
    (is_exclusive w e || has_item id_cmp s (One EXCLUSIVE))
    || ((is_acyclic w e || has_item id_cmp s (One ACYCLIC))
    || ((list_any (λ h. is_with h.0) (held_by w e) || list_any is_with s) || list_any (λ p. has w p.0 (Two WITH e)) (living w)))

-- e would be symmetric and one of these besides, or a symmetric one would come along with e
abbrev pub would_clash : WorldState → Entity → List Id → Bool
would_clash w e s =
    has_symmetric w.edition
    && (((has w e (One SYMMETRIC) || has_item id_cmp s (One SYMMETRIC)) && would_be_barred w e s) || list_any (ties_symmetric w) s)
