-- What a column keeps of values: so many fields of each.
use Rattle.std.specs.Prelude.{ℕ, ◌-◌, List, map, vec_len, vec_capacity}
use Rattle.eco_ids.specs.declared.value.Value.{Value}
use Rattle.eco_ids.specs.World.{padded}
use Rattle.eco_tables.specs.declared.column.Cells.{Cells}
use Rattle.eco_tables.specs.declared.column.Cells.TheVariants.{Narrow, Wide}
use Rattle.eco_tables.specs.declared.column.narrow.Narrow.{Narrow as NarrowFields}
use Rattle.eco_tables.specs.declared.column.narrow.Narrow.TheVariants.{One, Two, Three}
use Rattle.eco_tables.specs.declared.column.wide.Wide.{Wide as WideFields}
use Rattle.eco_tables.specs.declared.column.wide.Wide.TheVariants.{Four, Five, Six, Seven, Eight}

-- how many fields are kept of each value
abbrev pub narrow_width : NarrowFields → ℕ
narrow_width (One _) = 1
narrow_width (Two _) = 2
narrow_width (Three _) = 3

abbrev pub wide_width : WideFields → ℕ
wide_width (Four _) = 4
wide_width (Five _) = 5
wide_width (Six _) = 6
wide_width (Seven _) = 7
wide_width (Eight _) = 8

abbrev pub width_of : Cells → ℕ
width_of (Narrow f) = narrow_width f
width_of (Wide f) = wide_width f

-- the whole values
abbrev pub narrow_values : NarrowFields → List Value
narrow_values (One v) = map padded v.items
narrow_values (Two v) = map padded v.items
narrow_values (Three v) = map padded v.items

abbrev pub wide_values : WideFields → List Value
wide_values (Four v) = map padded v.items
wide_values (Five v) = map padded v.items
wide_values (Six v) = map padded v.items
wide_values (Seven v) = map padded v.items
wide_values (Eight v) = map padded v.items

abbrev pub values_of : Cells → List Value
values_of (Narrow f) = narrow_values f
values_of (Wide f) = wide_values f

-- so many more fit with no allocation
abbrev pub narrow_room : NarrowFields → ℕ
narrow_room (One v) = vec_capacity v - vec_len v
narrow_room (Two v) = vec_capacity v - vec_len v
narrow_room (Three v) = vec_capacity v - vec_len v

abbrev pub wide_room : WideFields → ℕ
wide_room (Four v) = vec_capacity v - vec_len v
wide_room (Five v) = vec_capacity v - vec_len v
wide_room (Six v) = vec_capacity v - vec_len v
wide_room (Seven v) = vec_capacity v - vec_len v
wide_room (Eight v) = vec_capacity v - vec_len v

abbrev pub room_of : Cells → ℕ
room_of (Narrow f) = narrow_room f
room_of (Wide f) = wide_room f
