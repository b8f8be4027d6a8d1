-- That a body may change the ids whose own patterns it writes.
use Rattle.std.proofs.Common.{◌≡◌, List, [], ◌∷◌, ◌++◌, IsTrue, subst, sym}
use Rattle.eco_ids.specs.declared.id.Id.{Id}
use Rattle.eco_ids.specs.declared.id.Id.TheVariants.{One, Two}
use Rattle.eco_ids.specs.declared.pattern.Pattern.{Pattern}
use Rattle.eco_ids.specs.Matching.{pattern_matches}
use Rattle.eco_ids.proofs.Ascending.{both}
use Rattle.eco_ids.proofs.Facts.{or_left, or_right}
use Rattle.eco_ids.proofs.Overlaps.{entity_eq_itself}
use Rattle.eco_query.specs.Queries.{exactly}
use Rattle.eco_systems.specs.Systems.{matches_one}

exactly_itself : (i : Id) → IsTrue (pattern_matches (exactly i) i)
exactly_itself (One e) = entity_eq_itself e
exactly_itself (Two r t) = both _ _ (entity_eq_itself r) (entity_eq_itself t)

stands : (before : List Pattern) (i : Id) (after : List Pattern) → IsTrue (matches_one (before ++ exactly i ∷ after) i)
stands [] i after = or_left (pattern_matches (exactly i) i) _ (exactly_itself i)
stands (p ∷ before) i after = or_right (pattern_matches p i) _ (stands before i after)

-- the id's pattern stands among those written, behind some and before others
pub is_among_written : (before : List Pattern) (i : Id) (after writes : List Pattern) → writes ≡ before ++ exactly i ∷ after → IsTrue (matches_one writes i)
is_among_written before i after writes own = subst (λ ps. IsTrue (matches_one ps i)) (sym own) (stands before i after)

-- it is the only one
pub is_only_written : (i : Id) (writes : List Pattern) → writes ≡ exactly i ∷ [] → IsTrue (matches_one writes i)
is_only_written i = is_among_written [] i []
