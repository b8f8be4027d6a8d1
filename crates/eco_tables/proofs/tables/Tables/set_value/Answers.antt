use Rattle.eco_tables.proofs.Common.{with_written}
use Rattle.eco_tables.proofs.RowIds.{written_has}
use Rattle.eco_tables.proofs.Slots.{own_is, row_some, row_there, still, wrote}
use Rattle.eco_tables.proofs.tables.Tables.set_value.Goals as goal

pub table_mut-requires : goal.table_mut-requires
table_mut-requires c = row_some c.self.inside.slots.items c.args.slot c.args.row (rw (← c.self.view_is) at c.requires.row)

pub set_value-requires : goal.set_value-requires
set_value-requires c =
    let own = own_is _ _ c.args.slot _ c.self.view_is c.table_mut.ensures.value in
    rw own record { row = c.requires.row; fits = c.requires.fits }

pub invariant_of-self : goal.invariant_of-self
invariant_of-self c =
    let there = c.table_mut.ensures.value in
    let row = row_there c.self.inside.slots.items c.args.slot c.args.row _ there (rw (← c.self.view_is) at c.requires.row) in
    still _ _ _ c.self.invariant c.args.slot _ _ there (λ t. with_written t c.args.row c.args.id c.args.value) c.set_value.ensures.written
    (written_has c.table_mut.result.now c.args.row c.args.id c.args.value row) (λ up. up)

pub returns-clause-written : goal.returns-clause-written
returns-clause-written c =
    wrote _ _ c.args.slot _ _ c.self.view_is c.table_mut.ensures.value (λ t. with_written t c.args.row c.args.id c.args.value) c.set_value.ensures.written

pub returns-clause-had : goal.returns-clause-had
returns-clause-had c =
    let own = own_is _ _ c.args.slot _ c.self.view_is c.table_mut.ensures.value in
    rw (← own) c.set_value.ensures.had
