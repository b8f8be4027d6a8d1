-- Entities with the places of their tables.
use Rattle.std.specs.Prelude.{List, [], ◌∷◌, map}
use Rattle.std.specs.Slice.Iter.{iter_rest}
use Rattle.eco_store.specs.declared.standing.Standing.{Standing}
use Rattle.eco_store.specs.declared.ranked.Ranks.{Ranks}
use Rattle.eco_store.specs.declared.ranked.Ranks.TheVariants as kept
use Rattle.eco_store.specs.declared.ranked.Rest.{Rest}
use Rattle.eco_store.specs.declared.ranked.Rest.TheVariants as left
use Rattle.eco_store.specs.Ranking.{in_first}

-- the list that is kept
abbrev pub standing_ones : Ranks → List Standing
standing_ones (kept.Alone es) = map in_first es.items
standing_ones (kept.Only e) = in_first e ∷ []
standing_ones (kept.Among ss) = ss.items

-- the list that is left
abbrev pub left_ones : Rest → List Standing
left_ones (left.Alone es) = map in_first (iter_rest es)
left_ones (left.Among ss) = iter_rest ss
