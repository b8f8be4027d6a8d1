use Rattle.eco_tables.proofs.Common.{without_row}
use Rattle.eco_tables.proofs.RowIds.{removed_has}
use Rattle.eco_tables.proofs.Slots.{row_some, row_there, still, wrote}
use Rattle.eco_tables.proofs.tables.Tables.swap_out.Goals as goal

pub table_mut-requires : goal.table_mut-requires
table_mut-requires c = row_some c.self.inside.slots.items c.args.slot c.args.row (rw (← c.self.view_is) at c.requires)

pub swap_out-requires : goal.swap_out-requires
swap_out-requires c = row_there c.self.inside.slots.items c.args.slot c.args.row _ c.table_mut.ensures.value (rw (← c.self.view_is) at c.requires)

pub invariant_of-self : goal.invariant_of-self
invariant_of-self c =
    let there = c.table_mut.ensures.value in
    let row = row_there c.self.inside.slots.items c.args.slot c.args.row _ there (rw (← c.self.view_is) at c.requires) in
    still _ _ _ c.self.invariant c.args.slot _ _ there (λ t. without_row t c.args.row) c.swap_out.ensures.rows
    (removed_has c.table_mut.result.now c.args.row row) (λ up. up)

pub returns-clause-rows : goal.returns-clause-rows
returns-clause-rows c = wrote _ _ c.args.slot _ _ c.self.view_is c.table_mut.ensures.value (λ t. without_row t c.args.row) c.swap_out.ensures.rows
