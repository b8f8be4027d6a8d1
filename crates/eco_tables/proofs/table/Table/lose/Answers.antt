use Rattle.eco_tables.proofs.Common.{◌≡◌, ◌∙◌, id_cmp, without_item, without_column, table_of}
use Rattle.eco_tables.proofs.Rows.{ascends}
use Rattle.eco_tables.proofs.Turning.{fewer_held, fewer_wide, shape_fewer, turned_table}
use Rattle.eco_tables.proofs.table.Table.lose.Goals as goal

pub remove_column-requires : goal.remove_column-requires
remove_column-requires c = ascends _ _ c.self.invariant.kinds

pub invariant_of-self : goal.invariant_of-self
invariant_of-self c = rw (c.remove.ensures.is, c.remove_column.ensures) (shape_fewer _ _ _ _ _ c.self.invariant c.args.id)

pub returns : goal.returns
returns c =
    let own = c.self.inside in
    let cs = own.columns.items in
    let list : c.remove.new.self ≡ without_item id_cmp own.type_list c.args.id = c.remove.ensures.is in
    let columns : c.remove_column.new.columns.items ≡ without_column cs c.args.id = c.remove_column.ensures in
    rw (← c.self.view_is)
    ((λ t. table_of (list t) (columns t) own.entities.items own.room)
    ∙ turned_table own.type_list cs c.self.invariant.kinds (without_item id_cmp own.type_list c.args.id) (without_column cs c.args.id)
    own.entities.items c.args.id 0 own.room
    (fewer_wide own.type_list cs c.self.invariant.kinds c.args.id) (fewer_held own.type_list cs c.self.invariant.kinds c.args.id))
