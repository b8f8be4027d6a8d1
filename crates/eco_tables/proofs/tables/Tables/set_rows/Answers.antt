use Rattle.eco_tables.proofs.Common.{◌<◌, ◌≤◌, arith, take}
use Rattle.std.specs.Prelude.{◌*◌}
use Rattle.eco_tables.specs.Runs.{run_values, table_with_run}
use Rattle.eco_tables.proofs.Runs.{ran_has}
use Rattle.eco_tables.proofs.Slots.{own_is, row_some, row_there, still, wrote}
use Rattle.eco_tables.proofs.tables.Tables.set_rows.Goals as goal

pub table_mut-requires : goal.table_mut-requires
table_mut-requires g c = row_some c.self.inside.slots.items c.args.slot c.args.row (rw (← c.self.view_is) at c.requires.row)

pub set_rows-requires : goal.set_rows-requires
set_rows-requires g c =
    let own = own_is _ _ c.args.slot _ c.self.view_is c.table_mut.ensures.value in
    let few : g.row.N ≤ 8 = c.requires.few in
    let size : g.row.N * 8 < 9223372036854775808 = omega (arith, few) in
    rw own (size, (c.requires.few, (c.requires.row, c.requires.fits)))

pub invariant_of-self : goal.invariant_of-self
invariant_of-self g c =
    let there = c.table_mut.ensures.value in
    let row = row_there c.self.inside.slots.items c.args.slot c.args.row _ there (rw (← c.self.view_is) at c.requires.row) in
    let sets = take c.set_rows.result c.args.sets.now in
    still _ _ _ c.self.invariant c.args.slot _ _ there (λ t. table_with_run t c.args.row c.args.id (run_values sets)) c.set_rows.ensures.written
    (ran_has c.table_mut.result.now c.args.row c.args.id sets c.args.arity c.args.least row c.set_rows.ensures.run) (λ up. up)

pub returns-clause-written : goal.returns-clause-written
returns-clause-written g c =
    let sets = take c.set_rows.result c.args.sets.now in
    wrote _ _ c.args.slot _ _ c.self.view_is c.table_mut.ensures.value (λ t. table_with_run t c.args.row c.args.id (run_values sets))
    c.set_rows.ensures.written

pub returns-clause-run : goal.returns-clause-run
returns-clause-run g c =
    let own = own_is _ _ c.args.slot _ c.self.view_is c.table_mut.ensures.value in
    rw (← own) c.set_rows.ensures.run

pub returns-clause-had : goal.returns-clause-had
returns-clause-had g c =
    let own = own_is _ _ c.args.slot _ c.self.view_is c.table_mut.ensures.value in
    rw (← own) c.set_rows.ensures.had

pub returns-clause-longest : goal.returns-clause-longest
returns-clause-longest g c =
    let own = own_is _ _ c.args.slot _ c.self.view_is c.table_mut.ensures.value in
    rw (← own) c.set_rows.ensures.longest
