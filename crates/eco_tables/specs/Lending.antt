-- What slots end as, where a `&mut` to the table of one is returned, or to two of them.
use Rattle.std.specs.Prelude.{ℕ, Some, slice_set}
use Rattle.std.specs.Borrow.{Lends, LendsBoth, Array, Fml, MutBor, RattleType}
use Rattle.std.specs.Vec.{with_item}
use Rattle.std.specs.contracts.alloc.Global as global
use Rattle.std.specs.contracts.impls.GlobalAllocator.TheImpl.{ghosts}
use Rattle.std.specs.contracts.option.Option as option
use Rattle.std.specs.contracts.vec.Vec as vec
use Rattle.eco_tables.specs.contracts.table.Table.{the_row}

-- a slot, and slots, as the logic holds them
abbrev pub slot_row : RattleType
slot_row = option.the_row the_row

abbrev pub slots_row : RattleType
slots_row = vec.the_row slot_row global.the_row ghosts

-- the slot ends with the table that was last left behind r
abbrev pub lends_there : MutBor slot_row.Denot → MutBor the_row.Denot → Fml
lends_there s r = Lends slot_row the_row s r Some

-- the slots end with that table in this slot
abbrev pub lends_table : MutBor slots_row.Denot → ℕ → MutBor the_row.Denot → Fml
lends_table s n r = Lends slots_row the_row s r (λ t. with_item s.now n (Some t))

-- the slots end with what was last left behind the first reference in the one slot, and behind the second in the other
abbrev pub lends_two : MutBor (Array slot_row 0).Denot → ℕ → ℕ → MutBor slot_row.Denot × MutBor slot_row.Denot
    → Fml
lends_two s from to r =
    LendsBoth (Array slot_row 0) slot_row slot_row s r (λ a b. slice_set (slice_set s.now from a) to b)
