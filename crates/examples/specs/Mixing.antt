-- The number that a row of the heavy case is set to.
use Rattle.std.specs.Prelude.{ℕ, ◌+◌, ◌*◌, ◌%◌, ◌/◌, ◌^◌, zero, suc, pos, [], ◌∷◌}
use Rattle.eco_ids.specs.declared.value.Value.{Value}
use Rattle.eco_ids.specs.World.{padded}

-- after so many steps
abbrev pub mixed : ℕ → ℕ → ℕ
mixed zero n = n
mixed (suc k) n = ((mixed k n * mixed k n) % 2 ^ 64 + 1442695040888963407) % 2 ^ 64

-- the half of it, which a field can hold
abbrev pub half_value : ℕ → ℕ → Value
half_value k n = padded (pos (mixed k n / 2) ∷ [])
