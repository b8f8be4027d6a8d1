-- The numbers that the checker ends with, which are those of the program that runs scripts.
use Rattle.std.specs.Prelude.{ℕ}
use Rattle.eco_checker.specs.declared.verdict.Verdict.{Verdict}
use Rattle.eco_checker.specs.declared.verdict.Verdict.TheVariants.{Script, Stopped, NotAScript}

-- the number of a verdict
abbrev pub verdict_code : Verdict → ℕ
verdict_code Script = 0
verdict_code Stopped = 1
verdict_code NotAScript = 2
