use Rattle.eco_tables.proofs.Common.{◌≡◌, ◌++◌, ap, sym, ◌∙◌, refl, length, take, drop, swap_remove, with_removed, rows_of, no_row}
use Rattle.std.specs.List.{slice_get}
use Rattle.eco_tables.proofs.Rows.{mapped_table, rewritten}
use Rattle.eco_tables.proofs.Shapes.{entities_of_all, removed_rows, row_in_columns, row_within, shape_removed}
use Rattle.eco_tables.proofs.table.Table.swap_out.Goals as goal

pub swap_remove-requires : goal.swap_remove-requires
swap_remove-requires c =
    rw c.self.inside.entities.ok.0 (row_within _ _ _ _ _ c.self.invariant c.args.row (rw (← c.self.view_is) at c.requires))

pub swap_out_row-requires : goal.swap_out_row-requires
swap_out_row-requires c =
    rw c.as_mut_slice.ensures.value (row_in_columns _ _ _ _ _ c.self.invariant c.args.row (rw (← c.self.view_is) at c.requires))

pub invariant_of-self : goal.invariant_of-self
invariant_of-self c =
    let columns = rewritten (λ x. with_removed x c.args.row) _ _ _ _ c.swap_out_row.ensures c.as_mut_slice.ensures.value c.self.inside.columns.ok.0 in
    rw (columns, c.swap_remove.ensures.items, c.swap_remove.ensures.capacity)
    (shape_removed _ _ _ _ _ c.self.invariant c.args.row c.swap_remove.result
    (row_within _ _ _ _ _ c.self.invariant c.args.row (rw (← c.self.view_is) at c.requires)))

pub returns-clause-rows : goal.returns-clause-rows
returns-clause-rows c =
    let own = c.self.inside in
    let columns = rewritten (λ x. with_removed x c.args.row) _ _ _ _ c.swap_out_row.ensures c.as_mut_slice.ensures.value own.columns.ok.0 in
    let there = row_within _ _ _ _ _ c.self.invariant c.args.row (rw (← c.self.view_is) at c.requires) in
    let rows : rows_of own.type_list (take own.columns.len (c.swap_out_row.new.columns ++ drop (length c.swap_out_row.new.columns) own.columns.items))
    c.swap_remove.new.self.items ≡ swap_remove (rows_of own.type_list own.columns.items own.entities.items) c.args.row no_row =
    (λ t. rows_of own.type_list (columns t) (c.swap_remove.ensures.items t))
    ∙ removed_rows own.type_list own.columns.items own.entities.items c.args.row c.swap_remove.result no_row c.self.invariant.even there in
    rw (← c.self.view_is) (mapped_table own.type_list (λ x. with_removed x c.args.row) own.columns.items _ _ _ _ _ (λ x. refl) columns rows refl)

pub returns-clause-moved : goal.returns-clause-moved
returns-clause-moved c =
    c.entity_at.ensures
    ∙ ap (λ xs. slice_get xs c.args.row) (c.as_slice.ensures.value ∙ sym (entities_of_all c.self.inside.type_list _ c.swap_remove.new.self.items))
