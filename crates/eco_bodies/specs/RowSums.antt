-- Sums of the values of rows, which their entities' ids are set to.
use Rattle.std.specs.Prelude.{ℕ, ◌+◌, List, [], ◌∷◌, ◌++◌, Option, option_map, option_to_list, slice_get}
use Rattle.eco_ids.specs.declared.entity.Entity.{Entity}
use Rattle.eco_ids.specs.declared.id.Id.{Id}
use Rattle.eco_ids.specs.declared.value.Value.{Value}
use Rattle.eco_ids.specs.Run.{Command, Set}
use Rattle.eco_systems.specs.Rows.{ValuedRow}
use Rattle.eco_bodies.specs.Lent.{item_at}
use Rattle.eco_bodies.specs.Sums.{sum_of_both}

-- an entity's id is set to the sum of two values, where there are both
abbrev pub set_both : Entity → Id → Option Value → Option Value → List Command
set_both e i a b = option_to_list (option_map (λ sum. Set e i sum) (sum_of_both a b))

-- the same of the values in two slots of a row
abbrev pub set_sum_of : ℕ → ℕ → Id → ValuedRow → List Command
set_sum_of into from i row = set_both row.entity i (item_at row.values into) (item_at row.values from)

-- the same of consecutive rows of two columns, from one on, each of which is an entity's
abbrev pub set_sums_from : List Value → List Value → Id → ℕ → List Entity → List Command
set_sums_from one other i row [] = []
set_sums_from one other i row (e ∷ entities) = set_both e i (slice_get one row) (slice_get other row) ++ set_sums_from one other i (row + 1) entities
