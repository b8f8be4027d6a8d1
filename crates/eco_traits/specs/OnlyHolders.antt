-- Whoever is named by one id of one other entity alone.
use Rattle.std.specs.Prelude.{◌≡◌, Some, IsTrue, IsFalse}
use Rattle.eco_ids.specs.declared.entity.Entity.{Entity}
use Rattle.eco_ids.specs.declared.entity.TheConstants.{DELETE, PANIC}
use Rattle.eco_ids.specs.declared.id.Id.{Id}
use Rattle.eco_ids.specs.Indices.{Indexed, record_of}
use Rattle.eco_ids.specs.Order.{entity_eq, id_cmp, is_ascending, names_entity}
use Rattle.eco_ids.specs.World.{Record, has}
use Rattle.eco_archetypes.specs.Records.{record_ids}
use Rattle.eco_archetypes.specs.Worlds.{world_of}
use Rattle.eco_traits.specs.Policies.{names_on}
use Rattle.eco_traits.specs.declared.only_holder.OnlyHolder.{OnlyHolder}

-- the holder is another, its id names the member, no other id of anybody does, and no policy speaks of the member's death
pub record IsOnlyHolder (v : Indexed Record) (o : OnlyHolder) : Type 0 where
  pub apart : IsFalse (entity_eq o.holder o.member)
  pub there : IsTrue (has (world_of v) o.holder o.id)
  pub names : IsTrue (names_entity o.id o.member)
  pub only : (h : Entity) (i : Id) → IsTrue (has (world_of v) h i) → IsTrue (names_entity i o.member) → (h ≡ o.holder) × (i ≡ o.id)
  pub stays : IsFalse (names_on (world_of v) DELETE o.member o.id)
  pub allowed : IsFalse (names_on (world_of v) PANIC o.member o.id)
  pub ascends : (r : Record) → record_of v o.holder ≡ Some r → IsTrue (is_ascending id_cmp (record_ids r))
