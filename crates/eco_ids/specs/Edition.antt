-- What an edition of the rules decides.
use Rattle.std.specs.Prelude.{ℕ, Bool, true, false, List, [], ◌∷◌}
use Rattle.eco_ids.specs.declared.edition.Edition.{Edition}
use Rattle.eco_ids.specs.declared.edition.Edition.TheVariants.{First, Second}
use Rattle.eco_ids.specs.declared.entity.Entity.{Entity}
use Rattle.eco_ids.specs.declared.entity.TheConstants.{EXCLUSIVE, ACYCLIC, SYMMETRIC}

-- how many entities live from the start
abbrev pub builtin_count : Edition → ℕ
builtin_count First = 9
builtin_count Second = 10

-- the most fields that a component's values have
abbrev pub largest_arity : Edition → ℕ
largest_arity First = 4
largest_arity Second = 8

-- relationships may be symmetric
abbrev pub has_symmetric : Edition → Bool
has_symmetric First = false
has_symmetric Second = true

-- the traits that a relationship may not get once it is in use
abbrev pub late_traits : Edition → List Entity
late_traits First = EXCLUSIVE ∷ ACYCLIC ∷ []
late_traits Second = EXCLUSIVE ∷ ACYCLIC ∷ SYMMETRIC ∷ []
