use Rattle.eco_tables.proofs.Common.{◌≡◌, ◌≤◌, ◌+◌, arith, ap, ◌∙◌, length, map, vec_capacity, contents, retyped_row, rows_from}
use Rattle.eco_tables.proofs.Common.{width_among}
use Rattle.eco_tables.proofs.Rows.{contents_kinds, contents_rows}
use Rattle.eco_tables.proofs.Shapes.{shape_reserved}
use Rattle.eco_tables.proofs.table.Table.try_copy.Goals as goal

pub invariant_of-result : goal.invariant_of-result
invariant_of-result c =
    let es = c.in_ok-entities.entities in
    let ds = c.in_ok-columns.columns.items in
    let same : map contents ds ≡ map contents c.self.inside.columns.items = c.in_ok-columns.ensures ∙ ap (map contents) c.as_slice-2.ensures.value in
    let items = c.in_ok-entities.ensures.items ∙ c.as_slice.ensures.value in
    let long = ap length c.as_slice.ensures.value in
    let room : length c.self.inside.entities.items + 0 ≤ vec_capacity es = omega (arith, es.ok.0, c.in_ok-entities.ensures.len, long) in
    rw (c.in_ok-type_list.ensures.is, items)
    (shape_reserved _ _ _ _ _ c.self.invariant ds (vec_capacity es) 0 same (λ k d there. omega arith) room)

pub returns : goal.returns
returns c =
    let ids = c.self.inside.type_list in
    let cs = c.self.inside.columns.items in
    let ds = c.in_ok-columns.columns.items in
    let same : map contents ds ≡ map contents cs = c.in_ok-columns.ensures ∙ ap (map contents) c.as_slice-2.ensures.value in
    let kinds = contents_kinds cs ds same in
    let rows = ap (rows_from ds 0) (c.in_ok-entities.ensures.items ∙ c.as_slice.ensures.value)
    ∙ contents_rows cs ds 0 c.self.inside.entities.items same in
    rw (← c.self.view_is, c.in_ok-type_list.ensures.is)
    (λ t. record { ids = ids; widths = map (width_among (kinds t)) ids; rows = map (retyped_row ids) (rows t); room = 0 })
