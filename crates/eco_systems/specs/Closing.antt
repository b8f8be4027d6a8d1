-- Closed writes as a list.
use Rattle.std.specs.Prelude.{Bool, ◌↔◌, ◌⊎◌, IsTrue, List, [], ◌∷◌, Option, Some, None}
use Rattle.std.specs.List.{list_any}
use Rattle.eco_ids.specs.declared.entity.Entity.{Entity}
use Rattle.eco_ids.specs.declared.pattern.Part.TheVariants.{Is, Each, Any}
use Rattle.eco_ids.specs.declared.pattern.Pattern.{Pattern}
use Rattle.eco_ids.specs.declared.pattern.Pattern.TheVariants.{One, Two}
use Rattle.eco_ids.specs.World.{WorldState}
use Rattle.eco_systems.specs.Writes.{IsClosedWrite}

-- the entity whose pairs of With say what the pattern brings; patterns of pairs of any relationship have none
abbrev pub pattern_head : Pattern → Option Entity
pattern_head (One e) = Some e
pattern_head (Two (Is r) q) = Some r
pattern_head (Two Each q) = None
pattern_head (Two Any q) = None

-- the pattern with another head: the single, or the relationship of the pairs
abbrev pub pattern_with_head : Pattern → Entity → Pattern
pattern_with_head (One e) x = One x
pattern_with_head (Two p q) x = Two (Is x) q

-- a closed write of the patterns passes the test
abbrev pub ClosedPasses : WorldState → List Pattern → (Pattern → Bool) → Type 0
ClosedPasses w writes test = (p : Pattern) × IsClosedWrite w writes p × IsTrue (test p)

-- the list is that of the closed writes: each test is passed by one of the list exactly where it is passed by a closed write
abbrev pub ListsClosed : WorldState → List Pattern → List Pattern → Type 0
ListsClosed w writes closed = (test : Pattern → Bool) → IsTrue (list_any test closed) ↔ ClosedPasses w writes test

-- the closed writes of one pattern more
abbrev pub Among : WorldState → Pattern → List Pattern → List Pattern → Type 0
Among w pattern old new = (test : Pattern → Bool) → IsTrue (list_any test new) ↔ (IsTrue (list_any test old) ⊎ ClosedPasses w (pattern ∷ []) test)
