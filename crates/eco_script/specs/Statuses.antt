-- The numbers that the program ends with.
use Rattle.std.specs.Prelude.{ℕ, List, codes, Option, Some, None}
use Rattle.eco_script.specs.declared.status.Status.{Status}
use Rattle.eco_script.specs.declared.status.Status.TheVariants.{Ran, Stopped, NotRead, BadArguments}

-- the number of a status
abbrev pub code_of : Status → ℕ
code_of Ran = 0
code_of Stopped = 1
code_of NotRead = 2
code_of BadArguments = 64

-- what the program says on standard error
abbrev pub message_of : Status → Option (List ℕ)
message_of Ran = None
message_of Stopped = Some (codes "flecsrun: stopped")
message_of NotRead = Some (codes "flecsrun: script not read")
message_of BadArguments = Some (codes "flecsrun: bad arguments")
