-- A name that somebody has.
use Rattle.std.specs.Prelude.{◌≡◌, ℕ, true, List, is_some}
use Rattle.eco_ids.specs.Indices.{Indexed}
use Rattle.eco_ids.specs.Names.{named_entity}
use Rattle.eco_entities.specs.Registration.{Registration, given_name}

-- a living entity has the name, and nothing has changed
pub record IsTaken (old : Indexed Registration) (name : List ℕ) (new : Indexed Registration) : Type 0 where
  pub borne : is_some (named_entity given_name old name) ≡ true
  pub same : new ≡ old
