-- A run: values of one id for entities that stand in rows one behind the other.
use Rattle.std.specs.Prelude.{ℕ, ℤ, ◌≤◌, List, [], ◌∷◌, IsTrue}
use Rattle.eco_ids.specs.Data.{is_zero_past}
use Rattle.eco_ids.specs.Indices.{Indexed, changed, is_alive}
use Rattle.eco_ids.specs.World.{Record, padded}
use Rattle.eco_ids.specs.declared.entity.Entity.{Entity}
use Rattle.eco_ids.specs.declared.id.Id.{Id}
use Rattle.eco_archetypes.specs.Records.{has_in_store}
use Rattle.eco_store.specs.Store.{record_with_written}

-- the store with the values of the sets at the id, one set after another
abbrev pub store_with_run : Indexed Record → Id → List (Entity × List ℤ) → Indexed Record
store_with_run w i [] = w
store_with_run w i (s ∷ ss) = store_with_run (changed w s.0 (record_with_written i (padded s.1))) i ss

-- the set is of a living entity that has the id, at an index no lower than the least, with zeros past so many fields
pub record IsRewrite (w : Indexed Record) (i : Id) (arity least : ℕ) (s : Entity × List ℤ) : Type 0 where
  pub alive : IsTrue (is_alive w s.0)
  pub had : IsTrue (has_in_store w s.0 i)
  pub ordinary : least ≤ s.0.index
  pub few : IsTrue (is_zero_past arity (padded s.1))
