-- Values that a column lends.
use Rattle.std.specs.Prelude.{ℕ, List, map}
use Rattle.eco_ids.specs.declared.value.Value.{Value}
use Rattle.eco_ids.specs.World.{padded}
use Rattle.eco_tables.specs.declared.values.Values.{Values}
use Rattle.eco_tables.specs.declared.values.Values.TheVariants.{One, Two, Three, Four, Five, Six, Seven, Eight}

-- how many fields are lent of each value
abbrev pub fields_of : Values → ℕ
fields_of (One _) = 1
fields_of (Two _) = 2
fields_of (Three _) = 3
fields_of (Four _) = 4
fields_of (Five _) = 5
fields_of (Six _) = 6
fields_of (Seven _) = 7
fields_of (Eight _) = 8

-- the whole values
abbrev pub whole_values : Values → List Value
whole_values (One v) = map padded v.now
whole_values (Two v) = map padded v.now
whole_values (Three v) = map padded v.now
whole_values (Four v) = map padded v.now
whole_values (Five v) = map padded v.now
whole_values (Six v) = map padded v.now
whole_values (Seven v) = map padded v.now
whole_values (Eight v) = map padded v.now
