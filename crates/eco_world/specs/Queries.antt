-- What a query asks and answers.
use Rattle.std.specs.Prelude.{Bool, List, filter, is_some, length, map, nat_lt}
use Rattle.std.specs.FinMap.Entries.{find}
use Rattle.std.specs.List.{list_any}
use Rattle.eco_ids.specs.declared.entity.Entity.{Entity}
use Rattle.eco_ids.specs.declared.id.Id.{Id}
use Rattle.eco_ids.specs.declared.pattern.Pattern.{Pattern}
use Rattle.eco_ids.specs.Answer.{Row as Result, answer}
use Rattle.eco_ids.specs.Matching.{pattern_matches}
use Rattle.eco_ids.specs.Terms.{QueryTerm}
use Rattle.eco_ids.specs.Order.{id_cmp}
use Rattle.eco_ids.specs.World.{WorldState, living}
use Rattle.eco_query.specs.Queries.{QuerySlot, matches_type}
use Rattle.eco_traits.specs.Target.{type_of_record}
use Rattle.eco_world.specs.declared.row.Row.{Row}

-- the result that a row of the program is
abbrev pub result_of : Row → Result
result_of row = record { entity = row.entity; entries = row.entries.items }

-- the living entities that have the id, ascending
abbrev pub holders : WorldState → Id → List Entity
holders w i = map (λ p. p.0) (filter (λ p. is_some (find id_cmp i p.1.held)) (living w))

-- a query may want memory where it has a result
abbrev pub may_query : WorldState → List QueryTerm → Bool
may_query w slots = nat_lt 0 (length (answer w slots))

-- the type of some living entity passes
abbrev pub is_passed : WorldState → (List Id → Bool) → Bool
is_passed w passes = list_any (λ p. passes (type_of_record p.1)) (living w)

-- some living entity has an id that the pattern matches
abbrev pub is_matched : WorldState → Pattern → Bool
is_matched w pattern = is_passed w (list_any (pattern_matches pattern))

-- some living entity answers the query: its type matches
abbrev pub is_answered : WorldState → List QuerySlot → Bool
is_answered w query = is_passed w (λ ids. matches_type ids query)
