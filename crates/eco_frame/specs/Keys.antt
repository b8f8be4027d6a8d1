-- Keys that are noted.
use Rattle.std.specs.Prelude.{◌≡◌, true, ◌||◌, List, Option, Some, None, unwrap_or}
use Rattle.std.specs.declared.cmp.Ordering.{Ordering}
use Rattle.std.specs.Ordering.{eq_by_cmp}
use Rattle.eco_ids.specs.declared.entity.Entity.{Entity}
use Rattle.eco_ids.specs.declared.entity.TheConstants.{WITH}
use Rattle.eco_ids.specs.declared.id.Id.{Id}
use Rattle.eco_ids.specs.declared.id.Id.TheVariants as id
use Rattle.eco_ids.specs.declared.pattern.Pattern.{Pattern}
use Rattle.eco_ids.specs.declared.pattern.Pattern.TheVariants.{One, Two}
use Rattle.eco_ids.specs.declared.pattern.Part.{Part}
use Rattle.eco_ids.specs.declared.pattern.Part.TheVariants.{Is, Each, Any}
use Rattle.eco_ids.specs.Order.{has_item}
use Rattle.eco_query.specs.Queries.{has_any}

-- the entity of a part, which a wildcard has not
abbrev pub part_entity : Part → Option Entity
part_entity (Is e) = Some e
part_entity Each = None
part_entity Any = None

-- an id that the pattern looks like: With stands for a wildcard
abbrev pub looks_like : Pattern → Id
looks_like (One e) = id.One e
looks_like (Two p q) = id.Two (unwrap_or (part_entity p) WITH) (unwrap_or (part_entity q) WITH)

-- the new keys are the old ones and x
pub record IsNoted {K : Type 0} (R : K → K → Ordering) (old : List K) (x : K) (new : List K) : Type 0 where
  pub members : (y : K) → has_item R new y ≡ (has_item R old y || eq_by_cmp R x y)
  pub some : has_any new ≡ true
