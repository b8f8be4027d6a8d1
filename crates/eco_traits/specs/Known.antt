-- All that pairs name as a target: a walk of pairs never leaves it.
use Rattle.std.specs.Prelude.{List, [], ◌∷◌, ◌++◌}
use Rattle.eco_ids.specs.declared.entity.Entity.{Entity}
use Rattle.eco_ids.specs.declared.id.Id.{Id}
use Rattle.eco_ids.specs.declared.id.Id.TheVariants.{One, Two}
use Rattle.eco_ids.specs.declared.value.Value.{Value}
use Rattle.eco_ids.specs.Indices.{IndexState, Retired, Free, Living}
use Rattle.eco_ids.specs.World.{WorldState, Record}

-- the target of a pair, and of a single id the entity itself
abbrev pub target_of : Id → Entity
target_of (One e) = e
target_of (Two r t) = t

-- the targets of all that is held
abbrev pub targets_in : List (Id × Value) → List Entity
targets_in [] = []
targets_in (p ∷ held) = target_of p.0 ∷ targets_in held

-- the same of these indices
abbrev pub targets_from : List (IndexState Record) → List Entity
targets_from [] = []
targets_from (Retired ∷ rest) = targets_from rest
targets_from (Free g ∷ rest) = targets_from rest
targets_from (Living g r ∷ rest) = targets_in r.held ++ targets_from rest

-- the targets of all that the living have
abbrev pub all_targets : WorldState → List Entity
all_targets w = targets_from w.indices
