-- The patterns by which the tables are found that a query asks for.
use Rattle.std.specs.Prelude.{Bool, true, ℕ, ◌+◌, ◌&&◌, ◌||◌, cond, nat_eq, List, [], ◌∷◌, map, filter}
use Rattle.eco_ids.specs.Terms.{QueryTerm}
use Rattle.eco_ids.specs.declared.id.Id.{Id}
use Rattle.eco_ids.specs.declared.pattern.Pattern.{Pattern}
use Rattle.eco_query.specs.Queries.{QuerySlot, holds, is_positive, patterns_of}

-- for each slot that asks for something to be there, its patterns
abbrev pub groups_of : List QuerySlot → List (List Pattern)
groups_of slots = map (λ s. patterns_of s.term) (filter (λ s. is_positive s.term) slots)

-- how many slots that ask for something to be there have come, with this one
abbrev pub number_after : ℕ → QueryTerm → ℕ
number_after before t = cond (is_positive t) (before + 1) before

-- each slot holds on an entity with these ids, but for the one that makes the group: those that came before have groups too
abbrev pub others_hold : List Id → List QueryTerm → ℕ → ℕ → Bool
others_hold ids [] before group = true
others_hold ids (t ∷ ts) before group =
    ((nat_eq before group && is_positive t) || holds ids t) && others_hold ids ts (number_after before t) group
