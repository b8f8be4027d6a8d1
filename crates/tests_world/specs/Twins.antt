-- What a body records that makes an entity for each row with a number, that this is what it declares, and that it looks at no more
-- handles than it takes.
use Rattle.std.proofs.Common.{◌≡◌, ℕ, List, [], ◌∷◌, ◌++◌, Option, Some, None, false, length, refl, arith}
use Rattle.std.specs.List.{AllByRecursion}
use Rattle.eco_ids.specs.declared.entity.Entity.{Entity}
use Rattle.eco_ids.specs.declared.id.Id.TheVariants as id
use Rattle.eco_ids.specs.declared.pattern.Pattern.{Pattern}
use Rattle.eco_ids.specs.declared.pattern.Pattern.TheVariants.{One}
use Rattle.eco_ids.specs.declared.value.Value.{Value}
use Rattle.eco_ids.specs.Run.{Command, Create, Set}
use Rattle.eco_systems.specs.Systems.{IsDeclared}
use Rattle.eco_bodies.specs.Own.{is_only_written}

-- the first handle becomes a twin with the number, if there is one
abbrev pub made : Entity → Option Value → List Entity → List Command
made twin None draws = []
made twin (Some v) [] = []
made twin (Some v) (e ∷ draws) = Create e ∷ Set e (id.One twin) v ∷ []

abbrev pub makes : Option Value → ℕ
makes None = 0
makes (Some v) = 1

pub made_is_declared : (twin : Entity) (writes : List Pattern) → writes ≡ One twin ∷ [] → (number : Option Value) (draws : List Entity)
    → AllByRecursion (IsDeclared writes false) (made twin number draws)
made_is_declared twin writes h None draws = tt
made_is_declared twin writes h (Some v) [] = tt
made_is_declared twin writes h (Some v) (e ∷ draws) = (tt, (is_only_written (id.One twin) writes h, tt))

pub made_is_settled : (twin : Entity) (number : Option Value) (mine later : List Entity) → makes number ≡ length mine
    → (makes number ≡ length mine) × (made twin number (mine ++ later) ≡ made twin number mine)
made_is_settled twin None mine later h = (h, refl)
made_is_settled twin (Some v) [] later h = absurd (omega (arith, h))
made_is_settled twin (Some v) (e ∷ mine) later h = (h, refl)
