-- Many entities die at once.
use Rattle.std.specs.Prelude.{ℕ, Bool, if◌then◌else◌, List, [], ◌∷◌}
use Rattle.eco_ids.specs.declared.entity.Entity.{Entity}
use Rattle.eco_ids.specs.Indices.{Indexed, IndexState, Retired, Free, Living, map_from, raised, with_death}
use Rattle.eco_ids.specs.World.{Record}

-- at index n whoever dies leaves the index free at the next generation, or retired
abbrev pub death_at : (Entity → Bool) → ℕ → IndexState Record → IndexState Record
death_at dies n Retired = Retired
death_at dies n (Free g) = Free g
death_at dies n (Living g r) = if dies (record { index = n; generation = g }) then raised g else Living g r

-- the store after these deaths: of all of them who live
abbrev pub after_deaths : Indexed Record → (Entity → Bool) → Indexed Record
after_deaths w dies = record w { indices = map_from (death_at dies) 0 w.indices }

-- these entities died, the last one first
abbrev pub with_deaths : {A : Type 0} → Indexed A → List Entity → Indexed A
with_deaths w [] = w
with_deaths w (e ∷ es) = with_death (with_deaths w es) e
