-- Stages whose commands are done, one after another.
use Rattle.std.specs.Prelude.{◌≡◌, ◌+◌, Bool, true, false, List, [], ◌∷◌, ◌++◌, flat_map, length, Result}
use Rattle.eco_ids.specs.Outcome.{Meets}
use Rattle.eco_ids.specs.Run.{Applies, Command, Runs, may_want}
use Rattle.eco_ids.specs.World.{WorldState}
use Rattle.eco_ids.specs.declared.refusal.Refusal.{Refusal}
use Rattle.eco_stages.specs.Outcomes.{Outcomes, Written}

-- the commands of all stages, in order
abbrev pub all_commands : List (List Command) → List Command
all_commands stages = flat_map (λ s. s) stages

-- there is a command
abbrev pub has_commands : List Command → Bool
has_commands [] = false
has_commands (c ∷ cs) = true

-- a command met its step
abbrev pub IsApplied : Command → WorldState → Result (Unit {0}) Refusal → WorldState → Type 0
IsApplied c old r new = Meets (Applies c old) (may_want c old) old r new

-- the commands ran on a world, and their outcomes stand behind those that were written, in room that was there
pub record AreDone (w : WorldState) (commands : List Command) (before after : Written) (new : WorldState) : Type 0 where
  pub outcomes : Outcomes
  pub appended : after.outcomes ≡ before.outcomes ++ outcomes
  pub room : after.room ≡ before.room
  pub ran : Runs w commands outcomes new

-- before the first command none is done
abbrev pub NoneAreDone : Type 0
NoneAreDone = (w : WorldState) (before : Written) → AreDone w [] before before w

-- one is, where it met its step and its outcome was written
abbrev pub OneIsDone : Type 0
OneIsDone =
    (w new : WorldState) (c : Command) (r : Result (Unit {0}) Refusal) (before after : Written)
    → after.outcomes ≡ before.outcomes ++ r ∷ [] → after.room ≡ before.room → IsApplied c w r new
    → AreDone w (c ∷ []) before after new

-- commands are, and others after them
abbrev pub BothAreDone : Type 0
BothAreDone =
    (w mid new : WorldState) (cs ds : List Command) (before between after : Written)
    → AreDone w cs before between mid → AreDone mid ds between after new → AreDone w (cs ++ ds) before after new

-- there are as many outcomes more as commands
abbrev pub DoneAreCounted : Type 0
DoneAreCounted =
    (w new : WorldState) (cs : List Command) (before after : Written)
    → AreDone w cs before after new → length after.outcomes ≡ length before.outcomes + length cs
