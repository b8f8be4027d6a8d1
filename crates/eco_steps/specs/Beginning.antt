-- The beginnings of a text.
use Rattle.std.specs.Prelude.{◌≡◌, ℕ, List, ◌++◌}

-- the whole is the part and something behind it
abbrev pub IsBeginning : List ℕ → List ℕ → Type 0
IsBeginning part whole = (more : List ℕ) × (whole ≡ part ++ more)
