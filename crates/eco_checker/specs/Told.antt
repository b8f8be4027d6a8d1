-- What a check tells of the bytes that it read.
use Rattle.std.specs.Prelude.{◌≡◌, ◌⊎◌, ℕ, List, codes, Option, Some, None, IfSome, IsUtf8, is_some}
use Rattle.std.specs.Io.KnownBytes.{Appends, Keeps}
use Rattle.serde_json.specs.Data.{Data}
use Rattle.serde_json.specs.Read.{read}
use Rattle.eco_steps.specs.Beginning.{IsBeginning}
use Rattle.eco_steps.specs.Decode.{parts_in, step_in}
use Rattle.eco_steps.specs.Script.{WrittenScript, IsScript}
use Rattle.eco_checker.specs.Faults.{edition_in, items_in, numbers_without}
use Rattle.eco_checker.specs.Lines.{AreFaults, IsUnread}

-- what is written where the bytes are a script
abbrev pub script_line : List ℕ
script_line = codes "is a script\n"

-- what is written of a value that is no script: its faults are the head, unless it is one, and each step that is none
abbrev pub AreFaultsOf : Data → List ℕ → Type 0
AreFaultsOf d told = AreFaults (is_some (parts_in d))
    (numbers_without (step_in (edition_in d)) 0 (items_in d)) told

-- what is written of bytes that are none: where they are no JSON text, and of such a text the faults of its value
abbrev pub IsReport : List ℕ → List ℕ → Type 0
IsReport bytes told = ((IsUtf8 bytes → read bytes ≡ None) × IsUnread told)
    ⊎ ((d : Data) × (read bytes ≡ Some d) × AreFaultsOf d told)

-- Each of these is said of the bytes that the reader had. Of a reader that tells no bytes nothing is said.

-- they are a script
abbrev pub AreScript : Option (List ℕ) → Type 0
AreScript had = IfSome had (λ bytes. (s : WrittenScript) × IsScript bytes s)

-- they are none
abbrev pub AreNoScript : Option (List ℕ) → Type 0
AreNoScript had = IfSome had (λ bytes. (s : WrittenScript) → ¬ IsScript bytes s)

-- this is what is written of them
abbrev pub IsReportOf : Option (List ℕ) → List ℕ → Type 0
IsReportOf had told = IfSome had (λ bytes. IsReport bytes told)

-- this is the line of a script, and they are one; or it is what is written of them, and they are none
abbrev pub IsTextOf : Option (List ℕ) → List ℕ → Type 0
IsTextOf bytes text = (AreScript bytes × (text ≡ script_line)) ⊎ (AreNoScript bytes × IsReportOf bytes text)

-- nothing was written, or a beginning of that text
abbrev pub WasCutShort : Option (List ℕ) → Option (List ℕ) → Option (List ℕ) → Type 0
WasCutShort bytes old new =
    Keeps old new ⊎ ((part : List ℕ) × (text : List ℕ) × IsTextOf bytes text × IsBeginning part text × Appends old new part)
