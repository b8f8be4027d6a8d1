-- How entities die and ids go: one shape for every step that takes.
use Rattle.std.specs.Prelude.{ℕ, Bool, false, not, if◌then◌else◌}
use Rattle.std.specs.FinMap.Entries.{where_key}
use Rattle.eco_ids.specs.declared.entity.Entity.{Entity}
use Rattle.eco_ids.specs.declared.id.Id.{Id}
use Rattle.eco_ids.specs.Indices.{IndexState, Retired, Free, Living, map_from, raised}
use Rattle.eco_ids.specs.Order.{id_cmp}
use Rattle.eco_ids.specs.World.{WorldState, Record}

-- the record with the ids that don't go, and their values
abbrev pub keeping : (Id → Bool) → Record → Record
keeping goes r = record r { held = where_key id_cmp (λ i. not (goes i)) r.held }

-- at index n a living entity dies, or keeps the ids that don't go
abbrev pub left_at : (Entity → Bool) → (Entity → Id → Bool) → ℕ → IndexState Record → IndexState Record
left_at dies goes n Retired = Retired
left_at dies goes n (Free g) = Free g
left_at dies goes n (Living g r) =
    if dies (record { index = n; generation = g }) then raised g
    else Living g (keeping (goes (record { index = n; generation = g })) r)

-- the world once these died and those ids went
abbrev pub without : WorldState → (Entity → Bool) → (Entity → Id → Bool) → WorldState
without w dies goes = record w { indices = map_from (left_at dies goes) 0 w.indices }

-- nobody
abbrev pub nobody : Entity → Bool
nobody e = false
