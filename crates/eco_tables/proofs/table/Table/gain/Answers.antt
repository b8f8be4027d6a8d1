use Rattle.eco_tables.proofs.Common.{◌≡◌, ◌≤◌, false, if◌then◌else◌, map, length, replicate, sym, ap, ◌∙◌, arith, zeros, id_cmp, id_eq}
use Rattle.eco_tables.proofs.Common.{has_item, with_item, kind_of, with_column, table_of, width_among}
use Rattle.eco_tables.proofs.Turning.{more_held, more_width, shape_more, turned_table}
use Rattle.eco_tables.proofs.table.Table.gain.Goals as goal

pub invariant_of-self-2 : goal.invariant_of-self-2
invariant_of-self-2 c =
    let own = c.self.inside in
    let column = c.in_ok-column.column in
    let list : c.insert.new.self ≡ with_item id_cmp own.type_list column.id =
    c.in_ok-insert.ensures.ok ∙ ap (with_item id_cmp own.type_list) (sym c.in_ok-column.ensures.id) in
    let columns : c.insert_column.new.columns.items ≡ with_column own.columns.items column =
    c.insert_column.ensures ∙ ap (λ xs. with_column xs column) c.reserve.ensures.items in
    let absent : has_item id_cmp own.type_list c.args.id ≡ false = rw (← c.self.view_is) at c.requires.absent in
    let lacks : has_item id_cmp own.type_list column.id ≡ false = ap (has_item id_cmp own.type_list) c.in_ok-column.ensures.id ∙ absent in
    let some : 1 ≤ column.width = omega (arith, c.in_ok-column.ensures.width, c.if-width-eq0.false) in
    let blank : column.values ≡ replicate (length own.entities.items) zeros =
    c.in_ok-column.ensures.values ∙ ap (λ n. replicate n zeros) (c.len.ensures ∙ own.entities.ok.0) in
    rw (list, columns) (shape_more _ _ _ _ _ c.self.invariant column lacks some blank c.in_ok-column.ensures.room)

pub returns-clause-ok : goal.returns-clause-ok
returns-clause-ok c =
    let own = c.self.inside in
    let cs = own.columns.items in
    let column = c.in_ok-column.column in
    let list : c.insert.new.self ≡ with_item id_cmp own.type_list c.args.id = c.in_ok-insert.ensures.ok in
    let columns : c.insert_column.new.columns.items ≡ with_column cs column =
    c.insert_column.ensures ∙ ap (λ xs. with_column xs column) c.reserve.ensures.items in
    let absent : has_item id_cmp own.type_list c.args.id ≡ false = rw (← c.self.view_is) at c.requires.absent in
    let lacks : has_item id_cmp own.type_list column.id ≡ false = ap (has_item id_cmp own.type_list) c.in_ok-column.ensures.id ∙ absent in
    rw (← c.self.view_is)
    ((λ t. table_of (list t) (columns t) own.entities.items own.room)
    ∙ turned_table own.type_list cs c.self.invariant.kinds (with_item id_cmp own.type_list c.args.id) (with_column cs column)
    own.entities.items c.args.id c.args.width own.room
    (λ j has. more_width own.type_list cs c.self.invariant.kinds column lacks j
    ∙ (λ t. if id_eq j (c.in_ok-column.ensures.id t) then c.in_ok-column.ensures.width t else width_among (map kind_of cs) j))
    (λ k j has. more_held own.type_list cs c.self.invariant.kinds column lacks c.len.result c.in_ok-column.ensures.values k j))
