-- The laws of scripts, as the contracts of `src/laws.rt` cite them.
use Rattle.std.specs.Prelude.{◌≡◌, ◌↔◌, ℕ, List, Some}
use Rattle.serde_json.specs.Data.{Data}
use Rattle.eco_ids.specs.declared.edition.Edition.{Edition}
use Rattle.eco_steps.specs.Decode.{script_in, step_in}
use Rattle.eco_steps.specs.Script.{WrittenScript, IsScript, IsScriptData}
use Rattle.eco_steps.specs.Steps.{WrittenStep, IsStepData}

-- bytes are one script at most
abbrev pub AreOneScript : Type 0
AreOneScript = (bytes : List ℕ) (a b : WrittenScript) → IsScript bytes a → IsScript bytes b → a ≡ b

-- the step that a value is, and no other, is found in it
abbrev pub StepsAreFound : Type 0
StepsAreFound = (edition : Edition) (d : Data) (s : WrittenStep) → IsStepData edition d s ↔ (step_in edition d ≡ Some s)

-- and so is the script
abbrev pub ScriptsAreFound : Type 0
ScriptsAreFound = (d : Data) (s : WrittenScript) → IsScriptData d s ↔ (script_in d ≡ Some s)
