-- Entities of a world that are read.
use Rattle.std.specs.Prelude.{ℕ}
use Rattle.eco_ids.specs.declared.entity.Entity.{Entity}
use Rattle.eco_ids.specs.World.{WorldState, entities, record_of}
use Rattle.eco_tables.specs.Table.{TableState}
use Rattle.eco_store.specs.Lent.{KeepsData}
use Rattle.eco_archetypes.specs.Shown.{Stands}

-- an entity of a world, which need not live there
pub record EntityIn : Type 0 where
  pub world : WorldState
  pub entity : Entity

-- the entity lives, and stands in this row of the table, which keeps fields of each of its ids that is data
pub record StandsInRow (w : WorldState) (e : Entity) (t : TableState) (row : ℕ) : Type 0 where
  pub stands : Stands (record_of w e) t row
  pub kept : KeepsData (entities w) t
