-- The laws of the texts of scripts, as the contracts of `src/laws.rt` cite them.
use Rattle.std.specs.Prelude.{◌≡◌, ℕ, Bool, true, false, IsFalse, List}
use Rattle.std.specs.List.{list_any}
use Rattle.eco_steps.specs.Script.{WrittenScript}
use Rattle.eco_steps.specs.Steps.{WrittenStep}
use Rattle.eco_steps.specs.Steps as step
use Rattle.eco_script.specs.Run.{beginning}
use Rattle.eco_script.specs.States.{ScriptState}
use Rattle.eco_script.specs.Text.{Text, TextInMemory, TextToEnd}

-- the step is a frame
abbrev pub is_frame : WrittenStep → Bool
is_frame step.frame = true
is_frame _ = false

-- where memory is never wanting, there is one text at most, and one state that it leads to
pub record HaveOneText : Type 0 where
  -- of steps without frames, however many workers there are; of several workers it is open which row of a frame draws which fresh handle
  pub frameless : (workers others : ℕ) (s : ScriptState) (steps : List WrittenStep) (t u : List ℕ) (end other : ScriptState)
      → IsFalse (list_any is_frame steps) → TextInMemory workers s steps t end → TextInMemory others s steps u other → (t ≡ u) × (end ≡ other)
  -- of a script and one worker, where no frame stops
  pub alone : (script : WrittenScript) (t u : List ℕ) (end other : ScriptState)
      → TextToEnd 1 (beginning script) script.steps t end → TextToEnd 1 (beginning script) script.steps u other → (t ≡ u) × (end ≡ other)

-- and that text is one that a run may have
abbrev pub MayBeText : Type 0
MayBeText = (workers : ℕ) (s : ScriptState) (steps : List WrittenStep) (text : List ℕ) (end : ScriptState)
    → (TextInMemory workers s steps text end → Text workers s steps text end)
    × (TextToEnd workers s steps text end → TextInMemory workers s steps text end)
