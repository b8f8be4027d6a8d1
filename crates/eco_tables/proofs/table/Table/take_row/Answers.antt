use Rattle.eco_tables.proofs.Common.{◌≡◌, ◌++◌, ◌∷◌, [], ap, sym, ◌∙◌, refl, length, map, take, drop, get_or, Id, Value, held_in, pushed, slice_get}
use Rattle.eco_tables.proofs.Common.{swap_remove, value_in, with_removed, TableRow, retyped_row, rows_of, no_row}
use Rattle.eco_tables.proofs.Rows.{ascends, columns_agree, mapped_table, rewritten, same_held}
use Rattle.eco_tables.proofs.Shapes.{added_rows, entities_of_all, removed_rows, row_at, row_in_columns, row_within, shape_joined, shape_removed}
use Rattle.eco_tables.proofs.table.Table.take_row.Goals as goal

pub swap_remove-entity-requires : goal.swap_remove-entity-requires
swap_remove-entity-requires c =
    rw c.source.inside.entities.ok.0 (row_within _ _ _ _ _ c.source.invariant c.args.row (rw (← c.source.view_is) at c.requires.row))

pub move_row-requires-clause-sorted : goal.move_row-requires-clause-sorted
move_row-requires-clause-sorted c = rw c.as_mut_slice.ensures.value (ascends _ _ c.self.invariant.kinds)

pub move_row-requires-clause-ascending : goal.move_row-requires-clause-ascending
move_row-requires-clause-ascending c = rw c.as_mut_slice-2.ensures.value (ascends _ _ c.source.invariant.kinds)

pub move_row-requires-clause-row : goal.move_row-requires-clause-row
move_row-requires-clause-row c =
    rw c.as_mut_slice-2.ensures.value (row_in_columns _ _ _ _ _ c.source.invariant c.args.row (rw (← c.source.view_is) at c.requires.row))

pub move_row-requires-clause-widths : goal.move_row-requires-clause-widths
move_row-requires-clause-widths c =
    rw (c.as_mut_slice.ensures.value, c.as_mut_slice-2.ensures.value)
    (columns_agree _ _ _ _ c.self.invariant.kinds c.source.invariant.kinds (rw (← c.self.view_is, ← c.source.view_is) at c.requires.widths))

pub invariant_of-self : goal.invariant_of-self
invariant_of-self c =
    let g : Id → Value = value_in (held_in c.as_mut_slice-2.result.now c.args.row) in
    let columns = rewritten (λ x. pushed x (g x.id)) _ _ _ _ c.move_row.ensures.taken c.as_mut_slice.ensures.value c.self.inside.columns.ok.0 in
    rw (columns, c.push_reserved.ensures.items, c.push_reserved.ensures.capacity)
    (shape_joined _ _ _ _ _ c.self.invariant (λ i. g i ∷ []) (c.swap_remove-entity.result ∷ []) (rw (← c.self.view_is) at c.requires.room) (λ i. refl))

pub invariant_of-source : goal.invariant_of-source
invariant_of-source c =
    let columns = rewritten (λ x. with_removed x c.args.row) _ _ _ _ c.move_row.ensures.left c.as_mut_slice-2.ensures.value c.source.inside.columns.ok.0 in
    rw (columns, c.swap_remove-entity.ensures.items, c.swap_remove-entity.ensures.capacity)
    (shape_removed _ _ _ _ _ c.source.invariant c.args.row c.swap_remove-entity.result
    (row_within _ _ _ _ _ c.source.invariant c.args.row (rw (← c.source.view_is) at c.requires.row)))

pub returns-clause-taken : goal.returns-clause-taken
returns-clause-taken c =
    let own = c.self.inside in
    let source = c.source.inside in
    let g : Id → Value = value_in (held_in source.columns.items c.args.row) in
    let columns = rewritten (λ x. pushed x (g x.id)) _ _ _ _
    (c.move_row.ensures.taken
    ∙ ap (λ ds. map (λ x. pushed x (value_in (held_in ds c.args.row) x.id)) c.as_mut_slice.result.now) c.as_mut_slice-2.ensures.value)
    c.as_mut_slice.ensures.value own.columns.ok.0 in
    let there = row_within _ _ _ _ _ c.source.invariant c.args.row (rw (← c.source.view_is) at c.requires.row) in
    let row : TableRow = record { entity = c.swap_remove-entity.result; held = held_in source.columns.items c.args.row } in
    let same = same_held own.type_list source.type_list own.columns.items source.columns.items c.self.invariant.kinds c.source.invariant.kinds
    (rw (← c.self.view_is, ← c.source.view_is) at c.requires.widths) c.args.row in
    let last : retyped_row source.type_list row ≡ get_or (rows_of source.type_list source.columns.items source.entities.items) c.args.row no_row =
    (λ t. retyped_row source.type_list (record { entity = c.swap_remove-entity.ensures.value t; held = held_in source.columns.items c.args.row }))
    ∙ sym (row_at _ _ _ _ _ c.source.invariant c.args.row c.swap_remove-entity.result no_row there) in
    let rows : rows_of own.type_list (take own.columns.len (c.move_row.new.columns ++ drop (length c.move_row.new.columns) own.columns.items))
    c.push_reserved.new.self.items
    ≡ rows_of own.type_list own.columns.items own.entities.items
    ++ retyped_row own.type_list (get_or (rows_of source.type_list source.columns.items source.entities.items) c.args.row no_row) ∷ [] =
    (λ t. rows_of own.type_list (columns t) (c.push_reserved.ensures.items t))
    ∙ added_rows own.type_list own.columns.items own.entities.items (row ∷ []) (retyped_row source.type_list) c.self.invariant.even
    (λ t. record { entity = row.entity; held = same t } ∷ [])
    ∙ ap (λ x. rows_of own.type_list own.columns.items own.entities.items ++ retyped_row own.type_list x ∷ []) last in
    rw (← c.self.view_is, ← c.source.view_is)
    (mapped_table own.type_list (λ x. pushed x (g x.id)) own.columns.items _ _ _ _ _ (λ x. refl) columns rows refl)

pub returns-clause-left : goal.returns-clause-left
returns-clause-left c =
    let own = c.source.inside in
    let columns = rewritten (λ x. with_removed x c.args.row) _ _ _ _ c.move_row.ensures.left c.as_mut_slice-2.ensures.value own.columns.ok.0 in
    let there = row_within _ _ _ _ _ c.source.invariant c.args.row (rw (← c.source.view_is) at c.requires.row) in
    let rows : rows_of own.type_list (take own.columns.len (c.move_row.new.source ++ drop (length c.move_row.new.source) own.columns.items))
    c.swap_remove-entity.new.self.items ≡ swap_remove (rows_of own.type_list own.columns.items own.entities.items) c.args.row no_row =
    (λ t. rows_of own.type_list (columns t) (c.swap_remove-entity.ensures.items t))
    ∙ removed_rows own.type_list own.columns.items own.entities.items c.args.row c.swap_remove-entity.result no_row c.source.invariant.even there in
    rw (← c.source.view_is) (mapped_table own.type_list (λ x. with_removed x c.args.row) own.columns.items _ _ _ _ _ (λ x. refl) columns rows refl)

pub returns-clause-moved : goal.returns-clause-moved
returns-clause-moved c =
    c.entity_at.ensures
    ∙ ap (λ xs. slice_get xs c.args.row) (c.as_slice.ensures.value ∙ sym (entities_of_all c.source.inside.type_list _ c.swap_remove-entity.new.self.items))
