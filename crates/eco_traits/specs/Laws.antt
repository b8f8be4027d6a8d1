-- What deletes keep.
use Rattle.std.specs.Prelude.{IsTrue, Result}
use Rattle.eco_ids.specs.declared.refusal.Refusal.{Refusal}
use Rattle.eco_ids.specs.Edition.{has_symmetric}
use Rattle.eco_ids.specs.Lawful.{IsLawful, IsMirrored}
use Rattle.eco_ids.specs.World.{WorldState}

-- where relationships may be symmetric, a lawful world steps to one in which the mirrors are there and nothing clashes
abbrev pub KeepsMirrored : (WorldState → Result (Unit {0}) Refusal → WorldState → Type 0) → Type 0
KeepsMirrored Step =
    (w : WorldState) (r : Result (Unit {0}) Refusal) (new : WorldState)
    → IsLawful w → Step w r new → IsTrue (has_symmetric new.edition) → IsMirrored new
