use Rattle.eco_tables.proofs.Common.{id_cmp, without_item, turned}
use Rattle.eco_ids.proofs.Ascending.{ascending_without}
use Rattle.eco_tables.proofs.RowIds.{turned_have}
use Rattle.eco_tables.proofs.Slots.{still, wrote}
use Rattle.eco_tables.proofs.tables.Tables.lose.Goals as goal

pub table_mut-requires : goal.table_mut-requires
table_mut-requires c = rw c.self.view_is c.requires

pub invariant_of-self : goal.invariant_of-self
invariant_of-self c =
    still _ _ _ c.self.invariant c.args.slot _ _ c.table_mut.ensures.value (λ t. turned t (without_item id_cmp t.ids c.args.id) c.args.id 0) c.lose.ensures
    (λ has. turned_have c.table_mut.result.now _ c.args.id 0) (ascending_without id_cmp c.table_mut.result.now.ids c.args.id)

pub returns : goal.returns
returns c = wrote _ _ c.args.slot _ _ c.self.view_is c.table_mut.ensures.value (λ t. turned t (without_item id_cmp t.ids c.args.id) c.args.id 0) c.lose.ensures
