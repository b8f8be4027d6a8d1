use Rattle.eco_tables.proofs.Common.{ap, refl, emptied, rows_of}
use Rattle.eco_tables.proofs.Rows.{mapped_table, rewritten}
use Rattle.eco_tables.proofs.Shapes.{shape_emptied}
use Rattle.eco_tables.proofs.table.Table.empty.Goals as goal

pub invariant_of-self : goal.invariant_of-self
invariant_of-self c =
    let columns = rewritten emptied _ _ _ _ c.clear-2.ensures c.as_mut_slice.ensures.value c.self.inside.columns.ok.0 in
    rw (columns, c.clear.ensures.items, c.clear.ensures.capacity) (shape_emptied _ _ _ _ _ c.self.invariant)

pub returns : goal.returns
returns c =
    let own = c.self.inside in
    let columns = rewritten emptied _ _ _ _ c.clear-2.ensures c.as_mut_slice.ensures.value own.columns.ok.0 in
    rw (← c.self.view_is)
    (mapped_table own.type_list emptied own.columns.items _ _ _ _ _ (λ x. refl) columns (ap (rows_of own.type_list _) c.clear.ensures.items) refl)
