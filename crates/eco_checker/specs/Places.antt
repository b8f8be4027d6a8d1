-- Where a fault is, in words, and the lines that are added for a step. Private functions alone speak of these.
use Rattle.std.specs.Prelude.{◌≡◌, ◌≢◌, ℕ, List, [], ◌++◌, codes, decimal}
use Rattle.eco_checker.specs.declared.report.Place.{Place}
use Rattle.eco_checker.specs.declared.report.Place.TheVariants.{Step, Stage, Command, Action}
use Rattle.eco_checker.specs.Lines.{AreOfStep}

-- the step that a place is in
abbrev pub place_step : Place → ℕ
place_step (Step step) = step
place_step (Stage step stage) = step
place_step (Command step stage command) = step
place_step (Action step action) = step

-- the words for a place
abbrev pub place_text : Place → List ℕ
place_text (Step step) = codes "step " ++ decimal step
place_text (Stage step stage) = codes "step " ++ decimal step ++ codes ", stage " ++ decimal stage
place_text (Command step stage command) =
    codes "step " ++ decimal step ++ codes ", stage " ++ decimal stage ++ codes ", command "
    ++ decimal command
place_text (Action step action) = codes "step " ++ decimal step ++ codes ", action " ++ decimal action

-- the new lines are the old ones, and behind them lines of a step
abbrev pub AddsLines : ℕ → List (List ℕ) → List (List ℕ) → Type 0
AddsLines n old new = (own : List (List ℕ)) × (new ≡ old ++ own) × AreOfStep n own

-- the same, and one line at least
abbrev pub AddsSome : ℕ → List (List ℕ) → List (List ℕ) → Type 0
AddsSome n old new = (own : List (List ℕ)) × (new ≡ old ++ own) × (own ≢ []) × AreOfStep n own
