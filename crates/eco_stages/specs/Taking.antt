-- Commands recorded with handles that are drawn.
use Rattle.std.specs.Prelude.{◌≡◌, ◌⊎◌, ℕ, ◌<◌, ◌≤◌, Bool, true, List, ◌++◌, length, map, if◌then◌else◌}
use Rattle.eco_ids.specs.declared.entity.Entity.{Entity}
use Rattle.eco_ids.specs.declared.refusal.Refusal.{Refusal}
use Rattle.eco_ids.specs.declared.refusal.Refusal.TheVariants.{NoMoreIds, OutOfMemory}
use Rattle.eco_ids.specs.Run.{Command}

-- why recording stops: a draw was refused, or else memory
abbrev pub stopped_by : Bool → Refusal
stopped_by dry = if dry then NoMoreIds else OutOfMemory

-- one of these two
abbrev pub IsStopped : Refusal → Type 0
IsStopped refusal = (refusal ≡ NoMoreIds) ⊎ (refusal ≡ OutOfMemory)

-- what takes so many of the handles that are there to draw stopped, after it drew some behind those drawn so far: it takes
-- these at least, and more where a draw was refused
abbrev pub Broke : (List Entity → ℕ) → List Entity → List Entity → Bool → Type 0
Broke taken before after dry =
    (mine : List Entity) × (after ≡ before ++ mine) × ((later : List Entity) → length mine ≤ taken (mine ++ later))
    × (dry ≡ true → (later : List Entity) → length mine < taken (mine ++ later))

-- what records with the handles that are there to draw took some behind those drawn so far, whatever there is to draw behind them,
-- and its commands stand behind those of the stage
abbrev pub Took : (List Entity → List Command) → (List Entity → ℕ) → List Entity → List Entity → List Command → List Command → Type 0
Took commands taken before after stage stage' =
    (mine : List Entity) × (after ≡ before ++ mine)
    × ((later : List Entity) → (taken (mine ++ later) ≡ length mine) × (stage' ≡ stage ++ commands (mine ++ later)))

-- the fresh handle of an index
abbrev pub fresh : ℕ → Entity
fresh n = record { index = n; generation = 0 }

-- a function of a piece and of handles, as one of the indices of fresh handles
abbrev pub by_index : {S X : Type 0} → (S → List Entity → X) → S → List ℕ → X
by_index f piece indices = f piece (map fresh indices)
