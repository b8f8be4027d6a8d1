-- What the body of wakes records, and that this is what it declares.
use Rattle.std.specs.Prelude.{◌≡◌, List, [], ◌∷◌, Option, Some, None, false}
use Rattle.std.specs.List.{AllByRecursion}
use Rattle.eco_ids.specs.declared.entity.Entity.{Entity}
use Rattle.eco_ids.specs.declared.id.Id.TheVariants as id
use Rattle.eco_ids.specs.declared.pattern.Pattern.{Pattern}
use Rattle.eco_ids.specs.declared.pattern.Pattern.TheVariants.{One}
use Rattle.eco_ids.specs.declared.value.Value.{Value}
use Rattle.eco_ids.specs.Run.{Command, Set}
use Rattle.eco_systems.specs.Systems.{IsDeclared}
use Rattle.eco_bodies.specs.Own.{is_only_written}

-- the component of the entity is set to the value, if there is one
abbrev pub noted : Entity → Entity → Option Value → List Command
noted wake e None = []
noted wake e (Some v) = Set e (id.One wake) v ∷ []

pub noted_is_declared : (wake : Entity) (writes : List Pattern) → writes ≡ One wake ∷ [] → (e : Entity) (v : Option Value)
    → AllByRecursion (IsDeclared writes false) (noted wake e v)
noted_is_declared wake writes h e None = tt
noted_is_declared wake writes h e (Some v) = (is_only_written (id.One wake) writes h, tt)
