-- What is true of every index.
use Rattle.std.specs.Prelude.{◌≡◌, ℕ, ◌≤◌, List, length, slice_get, Some, IsTrue}
use Rattle.eco_ids.specs.declared.entity.Entity.{Entity}
use Rattle.eco_ids.specs.Indices.{Indexed}
use Rattle.eco_ids.specs.Names.{is_proper}
use Rattle.eco_ids.specs.Renaming.{own_name}
use Rattle.eco_entities.specs.Registration.{Registration, given_name}
use Rattle.eco_entities.specs.Slots.{GenerationFits}

-- the known indices lie below the limit, generations are at most 65,535, and the names of the living are names, each
-- borne by one
pub record IsRuled (w : Indexed Registration) : Type 0 where
  pub limited : w.limit ≤ 1048576
  pub within : length w.indices ≤ w.limit
  pub generations : (i : ℕ) → GenerationFits (slice_get w.indices i)
  pub proper : (e : Entity) → IsTrue (is_proper (own_name given_name w e))
  pub unique : (a b : Entity) (name : List ℕ) → own_name given_name w a ≡ Some name → own_name given_name w b ≡ Some name → a ≡ b
