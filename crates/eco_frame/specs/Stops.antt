-- Why a frame stops.
use Rattle.std.specs.Prelude.{◌≡◌, ◌⊎◌, ℕ, List, Some, map, slice_get}
use Rattle.eco_ids.specs.declared.entity.Entity.{Entity}
use Rattle.eco_ids.specs.declared.refusal.Refusal.TheVariants.{NoMoreIds, OutOfMemory}
use Rattle.eco_ids.specs.Run.{Command}
use Rattle.eco_ids.specs.World.{WorldState}
use Rattle.eco_systems.specs.Rows.{ValuedRow}
use Rattle.eco_systems.specs.Systems.{SystemModel}
use Rattle.eco_bodies.specs.declared.systems.System.{System}
use Rattle.eco_frame.specs.Models.{ArePlaced}
use Rattle.eco_frame.specs.Pieces.{IsRunOut}
use Rattle.eco_frame.specs.declared.stop.FrameStop.{FrameStop}

module _ {B : Type 0} (taken : B → ValuedRow → List Entity → ℕ) (commands : B → ValuedRow → List Entity → List Command) where
  -- a batch, by its place among all, takes more fresh handles than there are
  abbrev pub IsNextOut : WorldState → List (System B) → List (List ℕ) → ℕ → Type 0
  IsNextOut w systems places n = (batch : List ℕ) × (slice_get places n ≡ Some batch) × IsRunOut taken commands w systems batch

  -- memory was wanting; or the batch behind those that were merged took more fresh handles, on the world that these had left, than there are
  abbrev pub IsWhy : (System B → SystemModel) → WorldState → List (System B) → FrameStop → WorldState → Type 0
  IsWhy model w systems stop new =
      (stop.refusal ≡ OutOfMemory)
      ⊎ ((stop.refusal ≡ NoMoreIds)
      × ((places : List (List ℕ)) × ArePlaced w (map model systems) places × IsNextOut new systems places stop.batches))
