-- What an add does, as far as that is known at a look.
use Rattle.std.specs.Prelude.{Bool, ◌≡◌, ◌||◌, ◌&&◌, true, false, List, None, Some, Ok}
use Rattle.eco_ids.specs.declared.edition.Edition.{Edition}
use Rattle.eco_ids.specs.declared.entity.Entity.{Entity}
use Rattle.eco_ids.specs.declared.entity.TheConstants.{ACYCLIC, EXCLUSIVE, SYMMETRIC, WITH}
use Rattle.eco_ids.specs.declared.id.Id.{Id}
use Rattle.eco_ids.specs.declared.id.Id.TheVariants.{One, Two}
use Rattle.eco_ids.specs.Edition.{has_symmetric}
use Rattle.eco_ids.specs.Mirrors.{mirror_of}
use Rattle.eco_ids.specs.Order.{entity_eq}
use Rattle.eco_ids.specs.World.{WorldState, has, names_living}
use Rattle.eco_traits.specs.declared.prospect.Prospect.{Prospect}
use Rattle.eco_traits.specs.declared.prospect.Prospect.TheVariants.{Dead, There, Alone, Open}
use Rattle.eco_traits.specs.declared.target.Target.TheVariants.{With}
use Rattle.eco_traits.specs.Closure.{head_of}
use Rattle.eco_traits.specs.Target.{FindsTarget, IsPlain, type_of_entity}

-- an id that says how pairs behave: Exclusive, Acyclic, Symmetric where the edition has it, or a pair of With
abbrev pub is_trait : Edition → Id → Bool
is_trait edition (One c) = entity_eq c EXCLUSIVE || (entity_eq c ACYCLIC || (has_symmetric edition && entity_eq c SYMMETRIC))
is_trait edition (Two r t) = entity_eq r WITH

-- the ids of i's own entity, a pair's relationship, tell that i comes alone
abbrev pub IsToldAlone : WorldState → Id → Type 0
IsToldAlone w i = (ids : List Id) × (Some ids ≡ type_of_entity w (head_of i)) × IsPlain w.edition i ids

-- what is known of an add of i to e: that an entity in i isn't living, that e has i, that e gets i alone and nobody a
-- mirror, or only that e lacks i, in which each entity lives, and that i's own entity doesn't tell that it comes alone
abbrev pub Foresees : WorldState → Entity → Id → Prospect → Type 0
Foresees w e i Dead = names_living w i ≡ false
Foresees w e i There = (names_living w i ≡ true) × (has w e i ≡ true)
Foresees w e i Alone = (has w e i ≡ false) × FindsTarget w e i (Ok With) × (mirror_of w e i ≡ None)
Foresees w e i Open = (names_living w i ≡ true) × (has w e i ≡ false) × (IsToldAlone w i → ⊥)
