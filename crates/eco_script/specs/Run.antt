-- What a run of the program writes.
use Rattle.std.specs.Prelude.{◌≡◌, ◌⊎◌, ℕ, List, Option, Some, None, IfSome}
use Rattle.std.specs.Io.KnownBytes.{Appends, Keeps}
use Rattle.eco_steps.specs.Beginning.{IsBeginning}
use Rattle.eco_ids.specs.World.{WorldState}
use Rattle.eco_steps.specs.Script.{WrittenScript, IsScript}
use Rattle.eco_script.specs.States.{ScriptState, first_state}
use Rattle.eco_script.specs.Text.{Text}

-- where the run of a script begins: a new world of its edition and its limit, without systems
abbrev pub beginning : WrittenScript → ScriptState
beginning script = first_state script.edition script.limit

-- the bytes are a script, and the text is that of a run of it by so many workers, which ends with this world
abbrev pub IsRunOfText : ℕ → List ℕ → List ℕ → WorldState → Type 0
IsRunOfText workers bytes text world =
    (script : WrittenScript) × (end : ScriptState) × IsScript bytes script × Text workers (beginning script) script.steps text end
    × (end.world ≡ world)

-- Each of these is said of the bytes that the reader had, and of those that the writer held before and after. Of a device
-- that tells no bytes nothing is said.

-- the bytes are a script, its text was written, and the run that has this text ends with this world
abbrev pub RanTo : ℕ → Option (List ℕ) → Option (List ℕ) → Option (List ℕ) → WorldState → Type 0
RanTo workers had old new world = IfSome had (λ bytes. (text : List ℕ) × IsRunOfText workers bytes text world × Appends old new text)

-- the bytes are no script, and nothing was written
abbrev pub WasNotRead : Option (List ℕ) → Option (List ℕ) → Option (List ℕ) → Type 0
WasNotRead None old new = Keeps old new
WasNotRead (Some bytes) old new = Keeps old new × ((script : WrittenScript) → ¬ IsScript bytes script)

-- nothing was written, or the bytes are a script, and a beginning of its text was written
abbrev pub WasStopped : ℕ → Option (List ℕ) → Option (List ℕ) → Option (List ℕ) → Type 0
WasStopped workers had old new = IfSome had (λ bytes. Keeps old new
    ⊎ ((part : List ℕ) × (text : List ℕ) × (end : WorldState) × IsRunOfText workers bytes text end × IsBeginning part text × Appends old new part))
