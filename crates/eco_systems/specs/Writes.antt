-- What a system's writes bring with them, and which systems write traits.
use Rattle.std.specs.Prelude.{◌≡◌, Bool, true, false, not, ◌&&◌, ◌||◌, IsTrue, List, [], ◌∷◌, if◌then◌else◌, ◌⊎◌}
use Rattle.eco_ids.specs.declared.edition.Edition.{Edition}
use Rattle.eco_ids.specs.declared.entity.Entity.{Entity}
use Rattle.eco_ids.specs.declared.entity.TheConstants.{CHILD_OF, WITH}
use Rattle.eco_ids.specs.declared.id.Id.TheVariants as id
use Rattle.eco_ids.specs.declared.pattern.Part.{Part}
use Rattle.eco_ids.specs.declared.pattern.Part.TheVariants.{Is, Each, Any}
use Rattle.eco_ids.specs.declared.pattern.Pattern.{Pattern}
use Rattle.eco_ids.specs.declared.pattern.Pattern.TheVariants.{One, Two}
use Rattle.eco_ids.specs.Builtin.{is_among_first}
use Rattle.eco_ids.specs.Edition.{builtin_count}
use Rattle.eco_ids.specs.Least.{Least, SomeOf}
use Rattle.eco_ids.specs.Order.{entity_eq}
use Rattle.eco_ids.specs.World.{WorldState, has, is_widened}
use Rattle.eco_systems.specs.Systems.{SystemModel}

-- by a pair of With, the pattern of a single brings that of a single, and a pattern of pairs of one relationship brings one of
-- pairs of another, with the same targets
abbrev pub BringsPattern : WorldState → Pattern → Pattern → Type 0
BringsPattern w (One c) (One x) = IsTrue (has w c (id.Two WITH x))
BringsPattern w (One c) (Two p q) = ⊥
BringsPattern w (Two p q) (One x) = ⊥
BringsPattern w (Two Each q) (Two p u) = ⊥
BringsPattern w (Two Any q) (Two p u) = ⊥
BringsPattern w (Two (Is r) q) (Two Each u) = ⊥
BringsPattern w (Two (Is r) q) (Two Any u) = ⊥
BringsPattern w (Two (Is r) q) (Two (Is x) u) = IsTrue (has w r (id.Two WITH x)) × (u ≡ q)

-- the patterns closed: the least set that holds them and what each brings
abbrev pub InClosedPatterns : WorldState → List Pattern → Pattern → Type 0
InClosedPatterns w patterns = Least (λ p. SomeOf (λ q. q ≡ p) patterns) (BringsPattern w)

-- a pattern of pairs of an exclusive or symmetric relationship, widened to all its pairs: what is done to one may touch others
abbrev pub widened : WorldState → Pattern → Pattern
widened w (One e) = One e
widened w (Two Each q) = Two Each q
widened w (Two Any q) = Two Any q
widened w (Two (Is r) q) = if is_widened w r then Two (Is r) Each else Two (Is r) q

-- the write patterns closed, and then widened
abbrev pub IsClosedWrite : WorldState → List Pattern → Pattern → Type 0
IsClosedWrite w writes p = (q : Pattern) × InClosedPatterns w writes q × (p ≡ widened w q)

-- a built-in of the edition other than ChildOf
abbrev pub is_builtin_trait : Edition → Entity → Bool
is_builtin_trait edition e = is_among_first (builtin_count edition) e && not (entity_eq e CHILD_OF)

abbrev pub is_trait_part : Edition → Part → Bool
is_trait_part edition (Is e) = is_builtin_trait edition e
is_trait_part edition Each = false
is_trait_part edition Any = false

-- the pattern holds a built-in other than ChildOf, or is one of pairs of any relationship
abbrev pub writes_trait : Edition → Pattern → Bool
writes_trait edition (One e) = is_builtin_trait edition e
writes_trait edition (Two Each q) = true
writes_trait edition (Two Any q) = true
writes_trait edition (Two (Is r) q) = is_builtin_trait edition r || is_trait_part edition q

-- one of its closed writes is such
abbrev pub IsTraitWriter : WorldState → SystemModel → Type 0
IsTraitWriter w s = (p : Pattern) × IsClosedWrite w s.writes p × IsTrue (writes_trait w.edition p)
