-- The law of faults, as the contract of `src/laws.rt` cites it.
use Rattle.std.specs.Prelude.{◌≡◌, ◌↔◌, ℕ, List, Some, Contains}
use Rattle.std.specs.List.{slice_get}
use Rattle.serde_json.specs.Data.{Data}
use Rattle.eco_ids.specs.declared.edition.Edition.{Edition}
use Rattle.eco_steps.specs.Decode.{step_in}
use Rattle.eco_steps.specs.Steps.{WrittenStep, IsStepData}
use Rattle.eco_checker.specs.Faults.{numbers_without}

-- the numbers that are listed are exactly those of the values that are no step, as steps are defined
abbrev pub AreThoseOfNoStep : Type 0
AreThoseOfNoStep = (edition : Edition) (ds : List Data) (n : ℕ)
    → Contains (numbers_without (step_in edition) 0 ds) n
    ↔ ((d : Data) × (slice_get ds n ≡ Some d) × ((s : WrittenStep) → ¬ IsStepData edition d s))
