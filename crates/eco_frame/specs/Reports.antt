-- What a frame reports.
use Rattle.std.specs.Prelude.{◌≡◌, ℕ, ◌+◌, List, [], ◌∷◌, length, Result, Ok, Err}
use Rattle.eco_ids.specs.World.{WorldState}
use Rattle.eco_systems.specs.Frames.{AscendingRuns, BatchDraws, BatchRuns, BatchRunsSolo, FrameOutcomes, Goes, GoesSoFar, all_drawn}
use Rattle.eco_systems.specs.Systems.{SystemModel}
use Rattle.eco_frame.specs.Pieces.{HasFewPieces}
use Rattle.eco_frame.specs.declared.stop.FrameStop.{FrameStop}

-- of a frame that ran to its end: how many batches it had, the outcome of each command in order, and how many handles were drawn
pub record FrameDone : Type 0 where
  pub batches : ℕ
  pub outcomes : FrameOutcomes
  pub drawn : ℕ

-- how many handles were drawn in some batches
abbrev pub drawn_in : List BatchDraws → ℕ
drawn_in [] = 0
drawn_in (d ∷ ds) = length (all_drawn d) + drawn_in ds

module _ (Way : WorldState → List SystemModel → BatchDraws → FrameOutcomes → WorldState → Type 0) where
  -- a frame of systems whose batches go in this way, and its report; or how many of its batches had gone when it stopped
  abbrev pub Frames : WorldState → List SystemModel → Result FrameDone FrameStop → WorldState → Type 0
  Frames w systems (Ok r) new =
      (draws : List BatchDraws) × Goes Way w systems draws r.outcomes new × (r.batches ≡ length draws) × (r.drawn ≡ drawn_in draws)
  Frames w systems (Err s) new =
      (draws : List BatchDraws) × (outcomes : FrameOutcomes) × GoesSoFar Way w systems draws outcomes new × (s.batches ≡ length draws)

-- a frame of systems by so many workers, and its report, in each of the ways in which it may be read
pub record IsFrameBy (workers : ℕ) (w : WorldState) (systems : List SystemModel) (result : Result FrameDone FrameStop) (new : WorldState) : Type 0 where
  -- its batches are recorded and merged, one after another
  pub batches : Frames BatchRuns w systems result new
  -- one worker draws the handles in the order of the rows
  pub alone : workers ≡ 1 → Frames AscendingRuns w systems result new
  -- the systems run one by one
  pub solo : Frames BatchRunsSolo w systems result new
  -- no batch that ran had more than 16,777,216 pieces
  pub few : Frames (λ v batch draws outcomes mid. BatchRuns v batch draws outcomes mid × HasFewPieces v batch) w systems result new
