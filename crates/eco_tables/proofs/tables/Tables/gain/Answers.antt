use Rattle.eco_tables.proofs.Common.{id_cmp, with_item, turned}
use Rattle.eco_ids.proofs.Ascending.{ascending_with}
use Rattle.eco_ids.proofs.IdOrder.{id_cmp_total}
use Rattle.eco_tables.proofs.RowIds.{turned_have}
use Rattle.eco_tables.proofs.Slots.{still, wrote}
use Rattle.eco_tables.proofs.tables.Tables.gain.Goals as goal

pub table_mut-requires : goal.table_mut-requires
table_mut-requires c = rw c.self.view_is c.requires.there

pub invariant_of-self-2 : goal.invariant_of-self-2
invariant_of-self-2 c =
    still _ _ _ c.self.invariant c.args.slot _ _ c.table_mut.ensures.value
    (λ t. turned t (with_item id_cmp t.ids c.args.id) c.args.id c.args.width) c.in_ok-gain.ensures.ok
    (λ has. turned_have c.table_mut.result.now _ c.args.id c.args.width)
    (ascending_with id_cmp_total c.table_mut.result.now.ids c.args.id)

pub returns-clause-ok : goal.returns-clause-ok
returns-clause-ok c =
    wrote _ _ c.args.slot _ _ c.self.view_is c.table_mut.ensures.value
    (λ t. turned t (with_item id_cmp t.ids c.args.id) c.args.id c.args.width) c.in_ok-gain.ensures.ok

pub invariant_of-self : goal.invariant_of-self
invariant_of-self c = still _ _ _ c.self.invariant c.args.slot _ _ c.table_mut.ensures.value (λ t. t) c.in_err-gain.ensures.err (λ has. has) (λ up. up)
