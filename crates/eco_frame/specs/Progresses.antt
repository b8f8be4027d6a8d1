-- What a frame has done so far.
use Rattle.std.specs.Prelude.{◌≡◌, ℕ, ◌+◌, List, [], ◌∷◌, ◌++◌, length, vec_capacity}
use Rattle.eco_ids.specs.World.{WorldState}
use Rattle.eco_systems.specs.Batches.{joined}
use Rattle.eco_systems.specs.Frames.{AreAscending, BatchDraws, BatchRuns, InTurn, FrameOutcomes, all_drawn}
use Rattle.eco_systems.specs.Systems.{SystemModel}
use Rattle.eco_frame.specs.Pieces.{HasFewPieces}
use Rattle.eco_frame.specs.Reports.{FrameDone, drawn_in}
use Rattle.eco_frame.specs.declared.progress.Progress.{Progress}

-- the commands are counted
abbrev pub CommandsAreCounted : Progress → Type 0
CommandsAreCounted p = p.commands ≡ length (joined p.reports.items)

-- what a frame reports that has done just this
abbrev pub done_of : Progress → FrameDone
done_of p = record { batches = length p.reports.items; outcomes = joined p.reports.items; drawn = p.drawn }

-- a batch of few pieces runs; of one worker its draws ascend over all pieces in order
abbrev pub RunsBy : ℕ → WorldState → List SystemModel → BatchDraws → FrameOutcomes → WorldState → Type 0
RunsBy workers w batch draws outcomes new =
    BatchRuns w batch draws outcomes new × (workers ≡ 1 → AreAscending (length w.indices) draws) × HasFewPieces w batch

-- one batch more ran, and is counted
pub record HasRun (workers : ℕ) (w : WorldState) (batch : List SystemModel) (before after : Progress) (new : WorldState) : Type 0 where
  pub draws : BatchDraws
  pub outcomes : FrameOutcomes
  pub runs : RunsBy workers w batch draws outcomes new
  pub reports : after.reports.items ≡ before.reports.items ++ outcomes ∷ []
  pub commands : after.commands ≡ before.commands + length outcomes
  pub drawn : after.drawn ≡ before.drawn + length (all_drawn draws)
  pub room : vec_capacity after.reports ≡ vec_capacity before.reports

-- these batches ran, one after another, and are counted
pub record HaveRun (workers : ℕ) (w : WorldState) (batches : List (List SystemModel)) (p : Progress) (new : WorldState) : Type 0 where
  pub draws : List BatchDraws
  pub run : InTurn (RunsBy workers) w batches draws (joined p.reports.items) new
  pub count : length p.reports.items ≡ length draws
  pub drawn : p.drawn ≡ drawn_in draws
  pub counted : CommandsAreCounted p

-- one report more is counted, with so many commands and draws in all
pub record CountsReport (before : Progress) (report : FrameOutcomes) (commands drawn : ℕ) (after : Progress) : Type 0 where
  pub reports : after.reports.items ≡ before.reports.items ++ report ∷ []
  pub commands_are : after.commands ≡ commands
  pub drawn_are : after.drawn ≡ drawn
  pub room : vec_capacity after.reports ≡ vec_capacity before.reports
