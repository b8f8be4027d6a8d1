-- Which script some bytes are.
use Rattle.std.specs.Prelude.{◌≡◌, ℕ, ◌≤◌, List, [], ◌∷◌, Some, IsUtf8}
use Rattle.std.specs.List.{AllZip}
use Rattle.serde_json.specs.Data.{Data, number, unsigned}
use Rattle.serde_json.specs.Read.{read}
use Rattle.eco_ids.specs.declared.edition.Edition.{Edition}
use Rattle.eco_ids.specs.declared.edition.Edition.TheVariants.{First, Second}
use Rattle.eco_ids.specs.Edition.{builtin_count}
use Rattle.eco_steps.specs.Steps.{WrittenStep, IsStepData, list_data}

-- the edition and the limit of a world, and the steps that are run on it
pub record WrittenScript : Type 0 where
  pub edition : Edition
  pub limit : ℕ
  pub steps : List WrittenStep

-- the version that the scripts of an edition begin with
abbrev pub version : Edition → ℕ
version First = 1
version Second = 2

-- the value is `[version, limit, steps]` of this script, and its limit is one that a world of its edition may have
pub record IsScriptData (value : Data) (s : WrittenScript) : Type 0 where
  pub items : List Data
  pub is_list : value ≡ list_data (number (unsigned (version s.edition)) ∷ number (unsigned s.limit) ∷ list_data items ∷ [])
  pub are_steps : AllZip (IsStepData s.edition) items s.steps
  pub at_least : builtin_count s.edition ≤ s.limit
  pub at_most : s.limit ≤ 1048576

-- the bytes are one JSON text, and its value is this script
abbrev pub IsScript : List ℕ → WrittenScript → Type 0
IsScript bytes s = IsUtf8 bytes × (value : Data) × (read bytes ≡ Some value) × IsScriptData value s
