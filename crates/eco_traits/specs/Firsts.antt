-- The least of what may be there.
use Rattle.std.specs.Prelude.{Bool, Option, None, Some, if◌then◌else◌}
use Rattle.std.specs.Ordering.{is_lt}
use Rattle.std.specs.declared.cmp.Ordering.{Ordering}

-- the lesser of two, where there are two
abbrev pub former : {A : Type 0} → (A → A → Ordering) → Option A → Option A → Option A
former R None o = o
former R (Some a) None = Some a
former R (Some a) (Some b) = if is_lt (R b a) then Some b else Some a

-- this, where it counts
abbrev pub counted : {A : Type 0} → A → Bool → Option A
counted a counts = if counts then Some a else None
