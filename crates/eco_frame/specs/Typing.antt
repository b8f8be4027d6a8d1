-- What a row has of an id.
use Rattle.std.specs.Prelude.{ℕ, Option, None, option_and_then, if◌then◌else◌}
use Rattle.eco_ids.specs.declared.id.Id.{Id}
use Rattle.eco_ids.specs.declared.value.Value.{Value}
use Rattle.eco_ids.specs.Order.{id_eq}
use Rattle.eco_systems.specs.Rows.{ValuedRow}
use Rattle.eco_bodies.specs.Lent.{item_at}

-- the value in a slot of a row, where what the slot has found is just this id
abbrev pub value_found_at : ValuedRow → ℕ → Id → Option Value
value_found_at row slot i = option_and_then (λ j. if id_eq j i then item_at row.values slot else None) (item_at row.entries slot)
