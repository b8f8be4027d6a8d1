use Rattle.eco_tables.proofs.Common.{◌≡◌, ◌≤◌, ◌++◌, ◌+◌, ◌-◌, List, true, if◌then◌else◌, is_ok, ap, sym, ◌∙◌, arith, refl}
use Rattle.eco_tables.proofs.Common.{length, map, vec_capacity, length-append, length-map, ColumnState, lengthened, retyped_row, rows_from, rows_of, table_of}
use Rattle.eco_tables.proofs.Common.{width_among}
use Rattle.eco_tables.proofs.Rows.{ascends, columns_agree, entities_of-rows, joined_columns, kinds_same, length-rows, same_held, same_rows, same_table}
use Rattle.eco_tables.proofs.Rows.{values_held}
use Rattle.eco_tables.proofs.Shapes.{added_rows, length-rows_of, shape_joined, shape_reserved}
use Rattle.eco_tables.proofs.table.Table.join.Goals as goal

pub join_all-requires-clause-room : goal.join_all-requires-clause-room
join_all-requires-clause-room c =
    let some : length c.source.inside.entities.items ≤ c.self.inside.room =
    rw (length-rows_of _ _ _ _ _ c.source.invariant) at (rw (← c.self.view_is, ← c.source.view_is) at c.requires.room) in
    rw (c.as_mut_slice.ensures.value, c.as_slice-entities.ensures.value) (λ k d there. omega (arith, some, c.self.invariant.roomy k d there))

pub join_all-requires-clause-ascending : goal.join_all-requires-clause-ascending
join_all-requires-clause-ascending c = rw c.as_slice.ensures.value (ascends _ _ c.source.invariant.kinds)

pub join_all-requires-clause-widths : goal.join_all-requires-clause-widths
join_all-requires-clause-widths c =
    rw (c.as_mut_slice.ensures.value, c.as_slice.ensures.value)
    (columns_agree _ _ _ _ c.self.invariant.kinds c.source.invariant.kinds (rw (← c.self.view_is, ← c.source.view_is) at c.requires.widths))

pub overflow_sub-self : goal.overflow_sub-self
overflow_sub-self c =
    rw c.as_slice-entities.ensures.value
    (rw (length-rows_of _ _ _ _ _ c.source.invariant) at (rw (← c.self.view_is, ← c.source.view_is) at c.requires.room))

some : (c : goal.After-self-2-1) → length c.source.inside.entities.items ≤ c.self.inside.room
some c = rw (length-rows_of _ _ _ _ _ c.source.invariant) at (rw (← c.self.view_is, ← c.source.view_is) at c.requires.room)

items : (c : goal.After-self-2-1) → c.extend_from_slice-room.new.self.items ≡ c.self.inside.entities.items ++ c.source.inside.entities.items
items c =
    let own = c.self.inside in
    let source = c.source.inside in
    let capacity : length own.entities.items + length source.entities.items ≤ vec_capacity own.entities =
    omega (arith, some c, c.self.invariant.rows_room) in
    let ok : is_ok c.extend_from_slice-room.result ≡ true =
    c.extend_from_slice-room.ensures.succeeds (omega (arith, capacity, own.entities.ok.0, ap length c.as_slice-entities.ensures.value)) in
    c.extend_from_slice-room.ensures.items
    ∙ (λ t. if ok t then own.entities.items ++ (c.as_slice-entities.ensures.value t) else own.entities.items)

pub invariant_of-self : goal.invariant_of-self
invariant_of-self c =
    let own = c.self.inside in
    let source = c.source.inside in
    let rows = rows_from source.columns.items 0 source.entities.items in
    let whole : List ColumnState = map (λ x. lengthened x (values_held rows x.id)) own.columns.items in
    let kept = joined_columns _ _ _ _ _ _ _ _ c.join_all.ensures.same c.as_mut_slice.ensures.value c.as_slice.ensures.value
    c.as_slice-entities.ensures.value own.columns.ok.0 in
    let room = own.room - length source.entities.items in
    let shape = shape_joined own.type_list own.entities.items (vec_capacity own.entities) own.columns.items own.room c.self.invariant
    (values_held rows) source.entities.items (some c) (λ i. length-map rows _ ∙ length-rows source.columns.items 0 source.entities.items) in
    rw (kept.1, items c, c.as_slice-entities.ensures.value)
    (shape_reserved own.type_list (own.entities.items ++ source.entities.items) (vec_capacity own.entities) whole room shape
    c.join_all.new.columns (vec_capacity c.extend_from_slice-room.new.self) room kept.0
    (c.join_all.ensures.kept room
    (rw (c.as_mut_slice.ensures.value, c.as_slice-entities.ensures.value) (λ k d there. omega (arith, some c, c.self.invariant.roomy k d there))))
    (omega (arith, some c, c.self.invariant.rows_room, c.extend_from_slice-room.ensures.capacity, length-append own.entities.items source.entities.items)))

pub returns : goal.returns
returns c =
    let own = c.self.inside in
    let source = c.source.inside in
    let rows = rows_from source.columns.items 0 source.entities.items in
    let whole : List ColumnState = map (λ x. lengthened x (values_held rows x.id)) own.columns.items in
    let kept = joined_columns _ _ _ _ _ _ _ _ c.join_all.ensures.same c.as_mut_slice.ensures.value c.as_slice.ensures.value
    c.as_slice-entities.ensures.value own.columns.ok.0 in
    let held = same_held own.type_list source.type_list own.columns.items source.columns.items c.self.invariant.kinds c.source.invariant.kinds
    (rw (← c.self.view_is, ← c.source.view_is) at c.requires.widths) in
    let kinds = kinds_same (λ x. lengthened x (values_held rows x.id)) (λ x. refl) own.columns.items in
    let joined_rows =
    ap (λ fs. rows_of own.type_list whole (own.entities.items ++ fs)) (sym (entities_of-rows source.columns.items 0 source.entities.items))
    ∙ added_rows own.type_list own.columns.items own.entities.items rows (retyped_row source.type_list) c.self.invariant.even
    (same_rows own.type_list source.type_list own.columns.items source.columns.items held 0 source.entities.items) in
    let count : length c.as_slice-entities.result.now ≡ length (rows_of source.type_list source.columns.items source.entities.items) =
    ap length c.as_slice-entities.ensures.value ∙ sym (length-rows_of _ _ _ _ _ c.source.invariant) in
    let room = own.room - length (rows_of source.type_list source.columns.items source.entities.items) in
    rw (← c.self.view_is, ← c.source.view_is)
    ((λ t. table_of own.type_list (kept.1 t) (items c t) (own.room - count t))
    ∙ same_table own.type_list (own.entities.items ++ source.entities.items) whole c.join_all.new.columns room kept.0
    ∙ (λ t. record { ids = own.type_list; widths = map (width_among (kinds t)) own.type_list; rows = joined_rows t; room = room }))
