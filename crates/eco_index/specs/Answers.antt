-- What the slots of a query ask.
use Rattle.std.specs.Prelude.{Bool, true, false, ◌||◌, List, map}
use Rattle.eco_ids.specs.Terms.{QueryTerm}
use Rattle.eco_ids.specs.declared.entity.Entity.{Entity}
use Rattle.eco_ids.specs.declared.pattern.Part.{Part}
use Rattle.eco_ids.specs.declared.pattern.Part.TheVariants.{Is, Each, Any}
use Rattle.eco_ids.specs.declared.pattern.Pattern.{Pattern}
use Rattle.eco_ids.specs.declared.pattern.Pattern.TheVariants.{One, Two}
use Rattle.eco_ids.specs.Order.{entity_eq}
use Rattle.eco_query.specs.declared.slot.Slot.{Slot}
use Rattle.eco_query.specs.Queries.{QuerySlot, term_view}

-- what some slots ask
abbrev pub asks : List Slot → List QueryTerm
asks slots = map (λ s. term_view s.term) slots

-- what the slots of a query ask
abbrev pub asked : List QuerySlot → List QueryTerm
asked slots = map (λ s. s.term) slots

-- two entities stand alike at the part, if it is `*`
abbrev pub parts_alike : Part → Entity → Entity → Bool
parts_alike Each a b = entity_eq a b
parts_alike Any a b = true
parts_alike (Is e) a b = true

-- the part is `_`
abbrev pub is_any : Part → Bool
is_any (Is e) = false
is_any Each = false
is_any Any = true

-- a part of the pattern is `_`
abbrev pub has_any_part : Pattern → Bool
has_any_part (One e) = false
has_any_part (Two p q) = is_any p || is_any q
