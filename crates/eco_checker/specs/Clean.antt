-- When nothing keeps a value from being a script.
use Rattle.std.specs.Prelude.{◌≡◌, true, []}
use Rattle.eco_checker.specs.declared.faults.Faults.{Faults}

-- the value has the three parts of a script, and each of its steps is one
abbrev pub IsClean : Faults → Type 0
IsClean f = (f.has_head ≡ true) × (f.steps.items ≡ [])
